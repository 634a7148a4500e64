use Rattle.std.proofs.Common.{length, List}
use Rattle.httparse.specs.Grammar.{ResponseHead}
use Rattle.http_target.proofs.ReplyLemmas.{Skipped}
use Rattle.http_target.proofs.reply.read_reply.Given as goal

-- the heads so far are interim
abbrev pub invariant-loop-code : goal.invariant-loop-code
invariant-loop-code l = (skipped : List ResponseHead) × Skipped l.bytes l.rest l.last skipped

abbrev pub decreases-loop-code : goal.decreases-loop-code
decreases-loop-code l = length l.rest
