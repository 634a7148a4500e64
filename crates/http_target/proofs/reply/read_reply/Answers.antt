use Rattle.std.proofs.Common.{◌∷◌, [], ◌++◌, sym}
use Rattle.http_target.proofs.ReplyLemmas.{skip, shorter, whole, not_yet, too_long, malformed}
use Rattle.http_target.proofs.reply.read_reply.Goals as goal

pub loop-code-smaller : goal.loop-code-smaller
loop-code-smaller c =
    let found = c.in-Whole.ensures in
    shorter c.loop-code.rest.now c.in-Whole.after.now c.in-Whole.code found.0 found.1

pub loop-code-preserved : goal.loop-code-preserved
loop-code-preserved c =
    let found = c.in-Whole.ensures in
    let so = c.loop-code.invariant in (
      so.0 ++ found.0 ∷ [],
      skip c.args.bytes.now c.loop-code.rest.now c.in-Whole.after.now c.loop-code.last so.0 c.in-Whole.code found.0 so.1 found.1 (sym c.if-is_interim.ensures),
    )

pub returns-else-is_interim : goal.returns-else-is_interim
returns-else-is_interim c =
    let found = c.in-Whole.ensures in
    let so = c.loop-code.invariant in
    whole c.args.bytes.now c.loop-code.rest.now c.in-Whole.after.now c.loop-code.last so.0 c.in-Whole.code found.0 so.1 found.1 (sym c.if-is_interim.ensures)

pub returns-in-Partial : goal.returns-in-Partial
returns-in-Partial c =
    let found = c.in-Partial.ensures in
    let so = c.loop-code.invariant in
    not_yet c.args.bytes.now c.loop-code.rest.now c.loop-code.last so.0 so.1 c.if-bytes-lt-HEADS_LIMIT.true found.0 found.1

pub returns-in-Partial-2 : goal.returns-in-Partial-2
returns-in-Partial-2 c =
    let so = c.loop-code.invariant in
    too_long c.args.bytes.now c.loop-code.rest.now c.loop-code.last so.0 so.1 c.if-bytes-lt-HEADS_LIMIT.false c.in-Partial.ensures.0

pub returns-in-Never : goal.returns-in-Never
returns-in-Never c =
    let so = c.loop-code.invariant in
    malformed c.args.bytes.now c.loop-code.rest.now c.loop-code.last so.0 so.1 c.in-Never.ensures
