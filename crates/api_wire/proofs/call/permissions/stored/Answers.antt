use Rattle.api_wire.proofs.call.permissions.stored.Goals as goal

pub unreachable-requires : goal.unreachable-requires
unreachable-requires c =
    let refused = c.in-Err-Bad.ensures.only c.requires.0 (rw c.as_bytes.ensures.value c.requires.1) in
    cc
