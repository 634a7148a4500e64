use Rattle.std.proofs.Common.{◌≡◌, ℕ, ◌+◌, ◌<◌, ◌++◌, List, [], ◌∷◌, length, None, sym, ap, ◌∙◌, subst, arith, rules}
use Rattle.name_rows.specs.Rows.{named}
use Rattle.replay_run.specs.declared.row.ReplayRow.{ReplayRow}
use Rattle.replay_run.specs.Replays.{name_of, number_of, is_running, found, names_of, rows_in, numbers_with, AreSound, most_running}
use Rattle.replay_run.proofs.ReplaysLemmas.{next_is, new_number, placed_last, pushed_length, rows_pushed, running_length, sound_started}
use Rattle.replay_run.proofs.replays.Replays.start.Goals as goal

pub note_start-requires : goal.note_start-requires
note_start-requires c =
    let runs : c.is_running-runs.result ≡ is_running c.args.new.row = c.is_running-runs.ensures ∙ ap is_running c.value-first.ensures in
    let long = running_length c.self.inside.all c.self.inside.running.items c.args.self.now c.self.invariant.2.runs c.self.view_is in
    record {
      room = λ is. subst (λ n. n < most_running) (sym long) (c.requires.room (sym runs ∙ is));
      capacity = c.self.invariant.0;
    }

pub insert-requires : goal.insert-requires
insert-requires c =
    let es = c.self.inside.all in
    let keyed : c.from.result ≡ c.value-first.result.now.number = search rules in
    let key = keyed ∙ ap number_of c.value-first.ensures ∙ c.requires.number ∙ next_is es c.args.self.now c.self.view_is in
    record { new_key = new_number c.from.result es c.self.invariant.2.counted key }

pub overflow_add-self : goal.overflow_add-self
overflow_add-self c = omega (arith, c.requires.few, c.self.invariant.1, next_is c.self.inside.all c.args.self.now c.self.view_is)

pub invariant_of-self : goal.invariant_of-self
invariant_of-self c =
    let es = c.self.inside.all in
    let row = c.args.new.row in
    let sound = c.self.invariant.2 in
    let first = ap number_of c.value-first.ensures in
    let keyed : c.from.result ≡ c.value-first.result.now.number = search rules in
    let numbered = c.requires.number ∙ next_is es c.args.self.now c.self.view_is in
    let key = keyed ∙ first ∙ numbered in
    let put : c.insert.new.self ≡ es ++ (c.from.result, row) ∷ [] = c.insert.ensures ∙ placed_last c.from.result row es sound.counted key in
    let runs : c.is_running-runs.result ≡ is_running row = c.is_running-runs.ensures ∙ ap is_running c.value-first.ensures in
    let numbers : c.note_start.new.running.items ≡ numbers_with (is_running row) c.from.result c.self.inside.running.items =
    c.note_start.ensures.numbers ∙ ap (λ b. numbers_with b c.value-first.result.now.number c.self.inside.running.items) runs
    ∙ ap (λ n. numbers_with (is_running row) n c.self.inside.running.items) (sym keyed) in
    let free : named name_of (name_of row) (rows_in es) ≡ None = ap (found (name_of row)) c.self.view_is ∙ c.requires.name in
    let all = c.requires.names ∙ ap (λ (rows : List ReplayRow). names_of (rows ++ row ∷ [])) (sym c.self.view_is) in
    let started = sound_started es c.self.inside.running.items c.self.inside.names c.args.new.names c.from.result row sound key (sym (keyed ∙ first)) free all in (
      c.note_start.ensures.capacity,
      ap (λ (n : ℕ). n + 1) c.self.invariant.1 ∙ sym (pushed_length es (c.from.result, row)) ∙ ap (length {A = ℕ × ReplayRow}) (sym put),
      subst (λ xs. AreSound xs c.note_start.new.running.items c.args.new.names) (sym put)
          (subst (λ ks. AreSound (es ++ (c.from.result, row) ∷ []) ks c.args.new.names) (sym numbers) started),
    )

pub returns : goal.returns
returns c =
    let es = c.self.inside.all in
    let row = c.args.new.row in
    let keyed : c.from.result ≡ c.value-first.result.now.number = search rules in
    let key = keyed ∙ ap number_of c.value-first.ensures ∙ c.requires.number ∙ next_is es c.args.self.now c.self.view_is in
    let put = c.insert.ensures ∙ placed_last c.from.result row es c.self.invariant.2.counted key in
    ap rows_in put ∙ rows_pushed es c.from.result row ∙ ap (λ (rows : List ReplayRow). rows ++ row ∷ []) c.self.view_is
