use Rattle.gu_keep.proofs.watch.fn.keep_beside.server+FnOnce.call_once.Goals as goal

-- what the closure asks for is what it is called with: of the lifetimes, of the types, and then of the argument
pub server-requires : goal.server-requires
server-requires g c =
    let given = c.requires.1.1.1 in
    let asked = given.1.1.1 in
    let types = asked.1 in
    (given.0, (given.1.0, (given.1.1.0, (types.0, (types.1, (types.2, (types.3, asked.0)))))))
