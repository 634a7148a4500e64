use Rattle.std.proofs.Common.{◌≡◌, ℕ, ◌+◌, ◌<◌, refl, subst, arith}
use Rattle.record_file.specs.State.{Covers}
use Rattle.record_file.proofs.LookLemmas.{OnlyLooks-none}
use Rattle.record_file.proofs.FindLemmas.{Counts-none}
use Rattle.record_file.proofs.find.find_payload.Goals as goal

pub returns-then-size-place-clause-looks : goal.returns-then-size-place-clause-looks
returns-then-size-place-clause-looks g c = OnlyLooks-none (g.D.Disk.calls c.args.disk.now)

pub returns-then-size-place-clause-count : goal.returns-then-size-place-clause-count
returns-then-size-place-clause-count g c = Counts-none (g.D.Disk.faults c.args.disk.now)

pub returns-then-size-place-clause-covers : goal.returns-then-size-place-clause-covers
returns-then-size-place-clause-covers g c = λ n same. absurd (cc same)

pub returns-in-Failed-clause-covers : goal.returns-in-Failed-clause-covers
returns-in-Failed-clause-covers g c = λ n same. absurd (cc same)

pub returns-in-NoMemory-clause-covers : goal.returns-in-NoMemory-clause-covers
returns-in-NoMemory-clause-covers g c = λ n same. absurd (cc same)

pub returns-in-Ready-clause-covers : goal.returns-in-Ready-clause-covers
returns-in-Ready-clause-covers g c = λ n same.
    let e : c.args.len ≡ n = cc in
    let low : c.args.place + 9 + c.args.len < c.args.size = omega arith in
    subst (λ (k : ℕ). Covers c.reach.new.self (c.args.place + 9) k × (c.args.place + 9 + k < c.args.size)) e (c.in-Ready.ensures.covers refl, low)
