use Rattle.gu_statement.proofs.sheet.Sheet.+write_rows.Given as goal

-- each part lies a level lower
abbrev pub decreases-write_rows : goal.decreases-write_rows
decreases-write_rows g l = l.levels
