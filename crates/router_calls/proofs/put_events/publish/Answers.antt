use Rattle.std.proofs.Common.{◌≡◌, ◌+◌, false, map, nat_lt, refl, ap, subst, arith}
use Rattle.std.proofs.lemmas.Bool.Decides.{nat_tests}
use Rattle.std.proofs.lemmas.Result.{IfOk-weaker}
use Rattle.json_text.specs.Limits.{most_together}
use Rattle.rule_table.specs.RuleSet.{RuleSet}
use Rattle.router_calls.specs.Accepted.{found_of}
use Rattle.resource_calls.specs.Decided.{decided_of}
use Rattle.router_calls.specs.Steps.{Places}
use Rattle.router_calls.specs.declared.put_events.PlacedEntries.{PlacedEntries}
use Rattle.router_core.proofs.TimeLemmas.{iso_of}
use Rattle.router_calls.proofs.EntryLemmas.{are_ready, published_at, IsFresh}
use Rattle.router_calls.proofs.put_events.publish.Goals as goal

pub reported-requires : goal.reported-requires
reported-requires c =
    let t = c.args.tables.now in
    let seen = c.requires.seen.2 in
    let (time, shown) = iso_of c.args.moment (omega (arith, c.requires.moment)) in
    let none : PlacedEntries = record {
      entries = c.in_ok-with_capacity.field-0;
      parts = c.in_ok-with_capacity-2.field-0;
      reports = c.in_ok-with_capacity-3.field-0;
      failed = 0;
    } in
    record {
      ready = are_ready t c.requires.seen.0 c.requires.seen.1 time c.args.k (c.events.result + 1) c.args.moment c.args.entries.now c.args.size c.args.found.now.items none
          c.place_all.new.all seen.sound seen.version seen.known c.requires.bounded c.requires.accounts seen.found (ap (λ n. n + 1) c.events.ensures)
          (record {
            entries = c.in_ok-with_capacity.ensures.items;
            parts = c.in_ok-with_capacity-2.ensures.items;
            reports = c.in_ok-with_capacity-3.ensures.items;
            failed = refl;
          })
          (subst (λ (s : RuleSet). Places c.args.k (c.events.result + 1) c.args.moment time c.args.entries.now (map (found_of s) c.args.found.now.items) none
          c.place_all.new.all) c.set.ensures (c.in_ok-place_all.ensures time shown));
    }

pub returns-clause-answer : goal.returns-clause-answer
returns-clause-answer c =
    let t = c.args.tables.now in
    let none : PlacedEntries = record {
      entries = c.in_ok-with_capacity.field-0;
      parts = c.in_ok-with_capacity-2.field-0;
      reports = c.in_ok-with_capacity-3.field-0;
      failed = 0;
    } in
    let fresh : IsFresh none = record {
      entries = c.in_ok-with_capacity.ensures.items;
      parts = c.in_ok-with_capacity-2.ensures.items;
      reports = c.in_ok-with_capacity-3.ensures.items;
      failed = refl;
    } in
    let small : nat_lt most_together c.args.size ≡ false = grind (arith, nat_tests) in
    IfOk-weaker c.reported.result _ _
    (λ d is time at. published_at t c.args.k (c.events.result + 1) c.args.size c.args.moment time c.args.entries.now _ none c.place_all.new.all (decided_of d) small
    (ap (λ n. n + 1) c.events.ensures) is fresh
    (subst (λ (s : RuleSet). Places c.args.k (c.events.result + 1) c.args.moment time c.args.entries.now (map (found_of s) c.args.found.now.items) none
    c.place_all.new.all) c.set.ensures (c.in_ok-place_all.ensures time at)))
    c.reported.ensures.answer
