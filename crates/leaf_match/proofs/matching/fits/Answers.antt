use Rattle.std.proofs.Common.{rules, ◌≡◌, None, subst, arith}
use Rattle.std.proofs.lemmas.Bool.{false≢true}
use Rattle.leaf_match.proofs.Progress.{Progress, Progress-start, Progress-run, Progress-taken, Progress-back, Progress-stuck, Progress-over}
use Rattle.leaf_match.proofs.matching.fits.Goals as goal

pub steps-init : goal.steps-init
steps-init g c = Progress-start (g.P.Pattern.pieces c.args.pattern.now) c.args.text.now

pub steps-preserved-in-RunBegins : goal.steps-preserved-in-RunBegins
steps-preserved-in-RunBegins g c =
    Progress-run (g.P.Pattern.pieces c.args.pattern.now) c.args.text.now c.steps.place c.steps.back c.in-RunBegins.ensures c.steps.invariant

pub steps-preserved-in-Taken : goal.steps-preserved-in-Taken
steps-preserved-in-Taken g c =
    let t = c.in-Taken.ensures in
    Progress-taken (g.P.Pattern.pieces c.args.pattern.now) c.args.text.now c.steps.place c.steps.back t.0 c.in-Taken.byte t.1 t.2 t.3 t.4 c.steps.invariant

pub returns-in_default : goal.returns-in_default
returns-in_default g c =
    let pieces = g.P.Pattern.pieces c.args.pattern.now in
    let none : c.steps.back ≡ None = search rules in
    let no = Progress-stuck pieces c.args.text.now c.steps.place c.in-Stuck.ensures
    (subst (Progress pieces c.args.text.now c.steps.place) none c.steps.invariant) in
    (λ e. absurd (false≢true e), λ f. absurd (no f))

pub returns-then-run-text : goal.returns-then-run-text
returns-then-run-text g c =
    let pieces = g.P.Pattern.pieces c.args.pattern.now in
    let no = Progress-over pieces c.args.text.now c.steps.place c.in-Some.run' c.in-Stuck.ensures (omega arith)
    (subst (Progress pieces c.args.text.now c.steps.place) c.in-Some.is c.steps.invariant) in
    (λ e. absurd (false≢true e), λ f. absurd (no f))

pub steps-preserved : goal.steps-preserved
steps-preserved g c =
    let pieces = g.P.Pattern.pieces c.args.pattern.now in
    let p = subst (Progress pieces c.args.text.now c.steps.place) c.in-Some.is c.steps.invariant in
    let before = p.byte_in in
    Progress-back pieces c.args.text.now c.steps.place c.in-Some.run' c.in-Stuck.ensures (omega arith) p
