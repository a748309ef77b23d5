use Rattle.std.proofs.Common.{◌≡◌, ◌++◌, List, ap, ◌∙◌, arith}
use Rattle.gu_session.specs.declared.kept.KeptHeader.{KeptHeader}
use Rattle.gu_session.proofs.KeptLists.{added_size, added_last}
use Rattle.gu_session.proofs.kept.KeptMessages.add.Goals as goal

pub trim-requires : goal.trim-requires
trim-requires c =
    let all : c.append.new.headers.items ≡ c.self.inside.headers.items ++ c.args.headers.now.items =
    c.append.ensures ∙ ap (λ (t : List KeptHeader). t ++ c.args.headers.now.items) c.reserve.ensures.items in
    let after = c.extend_from_slice.new.self in
    let size =
    added_size _ _ _ c.self.inside.gone _ _ _ c.self.invariant c.requires all c.in_ok-extend_from_slice.ensures.items in
    omega (arith, size, after.ok.0, after.ok.1, after.small)

pub overflow_add-self : goal.overflow_add-self
overflow_add-self c =
    let all : c.append.new.headers.items ≡ c.self.inside.headers.items ++ c.args.headers.now.items =
    c.append.ensures ∙ ap (λ (t : List KeptHeader). t ++ c.args.headers.now.items) c.reserve.ensures.items in
    let after = c.extend_from_slice.new.self in
    let size =
    added_size _ _ _ c.self.inside.gone _ _ _ c.self.invariant c.requires all c.in_ok-extend_from_slice.ensures.items in
    omega (arith, size, c.trim.ensures.size, after.ok.0, after.ok.1, after.small)

pub invariant_of-self-2 : goal.invariant_of-self-2
invariant_of-self-2 c =
    let all : c.append.new.headers.items ≡ c.self.inside.headers.items ++ c.args.headers.now.items =
    c.append.ensures ∙ ap (λ (t : List KeptHeader). t ++ c.args.headers.now.items) c.reserve.ensures.items in
    let size =
    added_size _ _ _ c.self.inside.gone _ _ _ c.self.invariant c.requires all c.in_ok-extend_from_slice.ensures.items in
    omega (arith, size, c.trim.ensures.size)

pub returns-clause-ok : goal.returns-clause-ok
returns-clause-ok c =
    let all : c.append.new.headers.items ≡ c.self.inside.headers.items ++ c.args.headers.now.items =
    c.append.ensures ∙ ap (λ (t : List KeptHeader). t ++ c.args.headers.now.items) c.reserve.ensures.items in
    added_last c.args.self.now _ _ _ _ c.self.inside.gone _ _ _ _ c.self.invariant c.self.view_is all
    c.in_ok-extend_from_slice.ensures.items c.trim.ensures.last
