use Rattle.std.proofs.Common.{◌≡◌, true, false, sym, ap, ◌∙◌, subst}
use Rattle.std.specs.Str.{bytes_eq}
use Rattle.json_text.specs.View.{tree_of}
use Rattle.router_requests.specs.Matching.{MatchesIfGiven}
use Rattle.router_requests.proofs.SeenArchiveLemmas.{keeps_not}
use Rattle.router_requests.proofs.matching.keeps.Goals as goal

pub returns-then-eq : goal.returns-then-eq
returns-then-eq c =
    let archive = c.args.archive.now in
    let event = tree_of c.args.event.now in
    let on : bytes_eq archive.bus c.args.bus.now ≡ true = ap (λ n. bytes_eq n c.args.bus.now) (sym c.bus.ensures) ∙ sym c.eq.ensures ∙ c.if-eq.true in
    record {
      yes = λ t. (on, subst (λ p. MatchesIfGiven p event) c.pattern.ensures (c.matches_if_given.ensures.0 t));
      not = λ f here. keeps_not c.matches_if_given.result archive event f
          (λ k. c.matches_if_given.ensures.1 (subst (λ p. MatchesIfGiven p event) (sym c.pattern.ensures) k));
    }

pub returns-else-eq : goal.returns-else-eq
returns-else-eq c =
    let archive = c.args.archive.now in
    let off : bytes_eq archive.bus c.args.bus.now ≡ false = ap (λ n. bytes_eq n c.args.bus.now) (sym c.bus.ensures) ∙ sym c.eq.ensures ∙ c.if-eq.false in
    record {
      yes = λ t. let never : false ≡ true = t in absurd (cc);
      not = λ f here k. let never : false ≡ true = sym off ∙ here in absurd (cc);
    }
