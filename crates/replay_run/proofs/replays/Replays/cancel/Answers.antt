use Rattle.std.proofs.Common.{◌≡◌, Some, None, true, sym, ap, ◌∙◌, subst, rules}
use Rattle.key_tree.specs.Entries.{placed, without}
use Rattle.replay_run.specs.declared.row.ReplayRow.{ReplayRow}
use Rattle.replay_run.specs.Replays.{running_named, is_running, name_of, numbers_after, cancelled_in, cancelled_at}
use Rattle.replay_run.proofs.ReplaysLemmas.{cancelled_kept, not_cancelled, picked, picked_there, rows_after, sound_after, length_after, gone_key}
use Rattle.replay_run.proofs.replays.Replays.cancel.Goals as goal

pub cancel-rest-requires : goal.cancel-rest-requires
cancel-rest-requires c =
    let es = c.self.inside.all in
    let name = c.args.name.now in
    let numbers = c.self.inside.running.items in
    let (row, named_so, number) = c.in-Some.ensures in
    let inner = ap (running_named name) c.self.view_is ∙ named_so in
    let keyed : c.from.result ≡ c.in-Some.number = search rules in
    let key = keyed ∙ sym number in
    let node = c.in-Some-remove.node in
    let p = picked name es numbers c.self.inside.names c.from.result row node c.self.invariant.2 inner key c.in-Some-remove.ensures.found in
    subst (λ (r : ReplayRow). is_running r ≡ true) (sym c.value_mut.ensures.value) p.runs

pub insert-requires : goal.insert-requires
insert-requires c =
    let again : c.from-in-Some-remove.result ≡ c.from.result = search rules in
    record { new_key = gone_key c.from.result c.from-in-Some-remove.result c.self.inside.all c.remove.new.self again c.in-Some-remove.ensures.left }

pub invariant_of-self : goal.invariant_of-self
invariant_of-self c =
    let es = c.self.inside.all in
    let name = c.args.name.now in
    let numbers = c.self.inside.running.items in
    let (row, named_so, number) = c.in-Some.ensures in
    let inner = ap (running_named name) c.self.view_is ∙ named_so in
    let keyed : c.from.result ≡ c.in-Some.number = search rules in
    let key = keyed ∙ sym number in
    let node = c.in-Some-remove.node in
    let p = picked name es numbers c.self.inside.names c.from.result row node c.self.invariant.2 inner key c.in-Some-remove.ensures.found in
    let again : c.from-in-Some-remove.result ≡ c.from.result = search rules in
    let new = c.cancel-rest.new.self in
    let made : new ≡ cancelled_at c.args.moment node = c.cancel-rest.ensures.row ∙ ap (cancelled_at c.args.moment) c.value_mut.ensures.value in
    let kept = cancelled_kept c.args.moment node in
    let put : c.insert.new.self ≡ placed (c.from-in-Some-remove.result, new) (without c.from.result es) =
    c.insert.ensures ∙ ap (placed (c.from-in-Some-remove.result, new)) c.in-Some-remove.ensures.left in
    let runs : c.note_change.new.running.items ≡ numbers_after (is_running new) c.from.result numbers =
    c.note_change.ensures.numbers ∙ ap (λ b. numbers_after b c.in-Some.number numbers) (c.is_running.ensures ∙ ap is_running c.value.ensures)
    ∙ ap (λ n. numbers_after (is_running new) n numbers) (sym keyed) in (
      c.note_change.ensures.capacity,
      c.self.invariant.1 ∙ sym (length_after name es c.insert.new.self c.from.result c.from-in-Some-remove.result node new c.self.invariant.2.counted p again put),
      sound_after name es c.insert.new.self numbers c.note_change.new.running.items c.self.inside.names c.from.result c.from-in-Some-remove.result node new
          c.self.invariant.2 p again put runs (ap (λ (r : ReplayRow). r.number) made ∙ kept.0) (ap name_of made ∙ kept.1),
    )

pub unreachable-requires : goal.unreachable-requires
unreachable-requires c =
    let es = c.self.inside.all in
    let name = c.args.name.now in
    let (row, named_so, number) = c.in-Some.ensures in
    let inner = ap (running_named name) c.self.view_is ∙ named_so in
    let keyed : c.from.result ≡ c.in-Some.number = search rules in
    let there = picked_there name es c.self.inside.running.items c.self.inside.names c.from.result row c.self.invariant.2 inner (keyed ∙ sym number) in
    let never : None ≡ Some row = sym c.in-None-remove.ensures.found ∙ there in
    absurd (cc)

pub returns-in-Some-remove-clause-cancelled : goal.returns-in-Some-remove-clause-cancelled
returns-in-Some-remove-clause-cancelled c =
    let es = c.self.inside.all in
    let name = c.args.name.now in
    let numbers = c.self.inside.running.items in
    let (row, named_so, number) = c.in-Some.ensures in
    let inner = ap (running_named name) c.self.view_is ∙ named_so in
    let keyed : c.from.result ≡ c.in-Some.number = search rules in
    let key = keyed ∙ sym number in
    let node = c.in-Some-remove.node in
    let p = picked name es numbers c.self.inside.names c.from.result row node c.self.invariant.2 inner key c.in-Some-remove.ensures.found in
    let again : c.from-in-Some-remove.result ≡ c.from.result = search rules in
    let new = c.cancel-rest.new.self in
    let made : new ≡ cancelled_at c.args.moment node = c.cancel-rest.ensures.row ∙ ap (cancelled_at c.args.moment) c.value_mut.ensures.value in
    let kept = cancelled_kept c.args.moment node in
    let put : c.insert.new.self ≡ placed (c.from-in-Some-remove.result, new) (without c.from.result es) =
    c.insert.ensures ∙ ap (placed (c.from-in-Some-remove.result, new)) c.in-Some-remove.ensures.left in
    rows_after name es c.insert.new.self c.from.result c.from-in-Some-remove.result node new (cancelled_at c.args.moment) c.self.invariant.2.counted p again made put
    ∙ ap (cancelled_in name c.args.moment) c.self.view_is

pub returns-in-Some-remove-clause-rest : goal.returns-in-Some-remove-clause-rest
returns-in-Some-remove-clause-rest c =
    let es = c.self.inside.all in
    let name = c.args.name.now in
    let numbers = c.self.inside.running.items in
    let (row, named_so, number) = c.in-Some.ensures in
    let inner = ap (running_named name) c.self.view_is ∙ named_so in
    let keyed : c.from.result ≡ c.in-Some.number = search rules in
    let key = keyed ∙ sym number in
    let node = c.in-Some-remove.node in
    let p = picked name es numbers c.self.inside.names c.from.result row node c.self.invariant.2 inner key c.in-Some-remove.ensures.found in (
      node,
      ap (running_named name) (sym c.self.view_is) ∙ p.found_so,
      c.cancel-rest.ensures.rest ∙ ap (λ (r : ReplayRow). r.replay.left) c.value_mut.ensures.value,
    )

pub returns-in-None-clause-cancelled : goal.returns-in-None-clause-cancelled
returns-in-None-clause-cancelled c = not_cancelled c.args.name.now c.args.moment c.args.self.now c.in-None.ensures
