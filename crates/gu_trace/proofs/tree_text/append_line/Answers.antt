use Rattle.std.proofs.Common.{◌≡◌, ◌++◌, [], ◌∷◌}
use Rattle.std.specs.Prelude.{Some, string_bytes}
use Rattle.gu_tree.specs.Shown.{shown}
use Rattle.gu_trace.specs.Trace.{indent, node_words, place_words, words_for, giver_of, line_of}
use Rattle.gu_trace.proofs.Texts.{on_ok, five_pieces}
use Rattle.gu_trace.proofs.tree_text.append_line.Goals as goal

pub returns : goal.returns
returns c =
    let head = c.args.row.now.head in
    let book = c.args.book.now in
    on_ok (string_bytes c.append_end.new.text ≡ string_bytes c.append_words.new.text ++ 10 ∷ [])
    (string_bytes c.append_end.new.text
    ≡ string_bytes c.args.text.now ++ line_of book.house book.history (shown c.args.row.now))
    c.append_end.result
    (λ last.
    five_pieces (string_bytes c.args.text.now) (string_bytes c.append_indent.new.text)
    (string_bytes c.append_node.new.text) (string_bytes c.append_place.new.text) (string_bytes c.append_words.new.text)
    (string_bytes c.append_end.new.text) (indent c.args.row.now.depth) (node_words head.name head.lots)
    (place_words (Some head.place))
    (words_for book.house book.history head.lots (giver_of book.history head.name) head.taker head.state) (10 ∷ [])
    c.in_ok-append_indent.ensures c.in_ok-append_node.ensures c.in_ok-append_place.ensures c.in_ok-append_words.ensures
    last)
    c.append_end.ensures
