-- What a file of records shows.
use Rattle.std.proofs.Common.{◌≡◌, ℕ, ◌+◌, ◌^◌, ◌<◌, ◌≤◌, List, [], ◌∷◌, ◌++◌, length, take, Result, Ok, Err, OnOk}
use Rattle.std.proofs.Common.{sym, ap, subst, inr, ◌∙◌, arith, length-append, length-drop}
use Rattle.std.proofs.lemmas.List.{append-nil, flat_map_more}
use Rattle.std.specs.List.{flat_map}
use Rattle.router_disk.specs.declared.disk_call.DiskCall.{DiskCall}
use Rattle.router_disk.specs.declared.disk_call.DiskCall.TheVariants.{Sync}
use Rattle.router_disk.specs.declared.fault.Failed.{Failed}
use Rattle.record_file.specs.Records.{first_gate, header, records, IsFileOf, AreFrom}
use Rattle.record_file.specs.Kept.{IsKept, IsOpened, IsSettledSince}
use Rattle.record_file.specs.State.{IsAtRest}
use Rattle.record_file.proofs.LookLemmas.{opened_by_sync, opened_settled}
use Rattle.record_file.proofs.StartLemmas.{kept_all}

abbrev Items : Type 0
Items = List (List (List ℕ) × Unit {0})

pub shown_push : (old new : Items) (more : List (List ℕ)) → new ≡ old ++ (more, tt) ∷ [] →
    flat_map (λ pair. pair.0) old ++ more ≡ flat_map (λ pair. pair.0) new
shown_push old new more is = flat_map_more (λ pair. pair.0) [] old (more, tt) ∙ ap (λ items. flat_map (λ pair. pair.0) items) (sym is)

pub shown_none : (items : Items) → items ≡ [] → [] ≡ flat_map (λ pair. pair.0) items
shown_none items is = ap (λ items. flat_map (λ pair. pair.0) items) (sym is)

pub shown_one : (old new : Items) (found : List (List ℕ)) → old ≡ [] → new ≡ old ++ (found, tt) ∷ [] → found ≡ flat_map (λ pair. pair.0) new
shown_one old new found none is =
    sym (append-nil found) ∙ ap (λ items. flat_map (λ pair. pair.0) items) (sym (is ∙ ap (λ items. items ++ (found, tt) ∷ []) none))

pub moved : (at : ℕ) (first : List ℕ) (calls : List DiskCall) (ps qs : List (List ℕ)) (p q : ℕ) → ps ≡ qs → p ≡ q → IsAtRest at first calls ps p → IsAtRest at first calls qs q
moved at first calls ps qs p q same there rests = subst (λ xs. IsAtRest at first calls xs q) same (subst (λ (n : ℕ). IsAtRest at first calls ps n) there rests)

pub settle_opens : (old new : List DiskCall) (result : Result (Unit {0}) Failed) → old ≡ [] → new ≡ old ++ Sync result ∷ [] → OnOk result (IsOpened new 1)
settle_opens old new (Ok done) none is = opened_by_sync old new none is
settle_opens old new (Err fault) none is = tt

-- a file that was scanned up to a closed gate
pub resumed : (at : ℕ) (first : List ℕ) (calls : List DiskCall) (since : ℕ) (found : List (List ℕ)) (place : ℕ) → 8 ≤ at → IsSettledSince first calls since first →
    length first < 2 ^ 63 → take 8 first ≡ header → place ≡ at + length (records found) → AreFrom at first found → IsAtRest at first calls found place
resumed at first calls since found place after o short begins there closed = record {
  file = first;
  settled = opened_settled first calls since first o;
  begins = begins;
  after = after;
  gate = closed.0;
  rest = closed.1;
  has = closed.2;
  closed = closed.3;
  gate_place = there;
  low = omega (arith, there, short, ap (λ m. length m) closed.2.is, length-drop at first, length-append (records found) (closed.0 ∷ closed.1));
}

pub resumed_kept : (first : List ℕ) (calls : List DiskCall) (since : ℕ) (found : List (List ℕ)) → IsSettledSince first calls since first →
    take 8 first ≡ header → AreFrom first_gate first found → IsKept first calls found since found found
resumed_kept first calls since found o begins closed =
    kept_all first calls found since o.past (λ image left. subst (λ f. IsFileOf f found) (sym (o.each image left)) (inr (begins, closed)))
