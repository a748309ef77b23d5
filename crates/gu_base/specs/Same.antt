-- Equality of commands, field by field.
use Rattle.std.specs.Prelude.{Bool, false, ◌&&◌, ◌==◌, bytes_eq}
use Rattle.gu_base.specs.SameParts.{same_parts}
use Rattle.gu_base.specs.Nodes.{same_name}
use Rattle.gu_base.specs.Positions.{same_side}
use Rattle.gu_base.specs.declared.command.Command.{Command}
use Rattle.gu_base.specs.declared.command.Command.TheVariants.{Trade, Split, Claim, Refuse, Cancel}
use Rattle.gu_base.specs.declared.command.Command.TheVariants.{Agree, Raise, Initiate, Decline}
use Rattle.gu_base.specs.declared.command.Command.TheVariants.{Reverse}

-- the same command, with the same values
abbrev pub same_command : Command → Command → Bool
same_command (Trade f a i s l) (Trade f' a' i' s' l') =
    bytes_eq f f' && bytes_eq a a' && bytes_eq i i' && same_side s s' && (l == l')
same_command (Split n ps) (Split n' ps') = same_name n n' && same_parts ps ps'
same_command (Claim n a) (Claim n' a') = same_name n n' && bytes_eq a a'
same_command (Refuse n) (Refuse n') = same_name n n'
same_command (Cancel n) (Cancel n') = same_name n n'
same_command (Agree g k r l) (Agree g' k' r' l') =
    bytes_eq g g' && bytes_eq k k' && (r == r') && (l == l')
same_command (Raise g l) (Raise g' l') = bytes_eq g g' && (l == l')
same_command (Initiate e) (Initiate e') = e == e'
same_command (Decline e) (Decline e') = e == e'
same_command (Reverse e) (Reverse e') = e == e'
same_command _ _ = false
