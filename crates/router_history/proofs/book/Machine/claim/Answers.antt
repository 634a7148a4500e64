use Rattle.std.proofs.Common.{refl, sym, ap, ◌∙◌, subst}
use Rattle.std.specs.Prelude.{IfSome}
use Rattle.router_core.specs.Tables.{Tables}
use Rattle.router_core.specs.Steps.{IsClaimed}
use Rattle.router_history.specs.declared.held.Held.{Held}
use Rattle.router_history.specs.declared.book.Machine.{Machine}
use Rattle.router_history.specs.Held.{held_claim}
use Rattle.router_history.proofs.BookLemmas.{book_with, kept_same, added_of}
use Rattle.router_history.proofs.ClaimLemmas.{claim_made, claimed, claimed_book, limited, broken, put_back_same}
use Rattle.router_history.proofs.book.Machine.claim.Goals as goal

pub returns-then-full-clause-kept : goal.returns-then-full-clause-kept
returns-then-full-clause-kept c =
    let old : Machine = c.args.self.now in
    let is : IsClaimed old.tables c.turn_moment-moment.result c.in-Ok-Some.errand c.claim.new.self =
    subst (λ found. IfSome found (λ e. IsClaimed old.tables c.turn_moment-moment.result e c.claim.new.self)) c.in-Ok-Some.field-0-is
    c.in-Ok-Some.ensures.some in
    let same = put_back_same old c.turn_moment-moment.result c.in-Ok-Some.errand c.claim.new.self c.put_back.new.self
    c.requires.kept is c.put_back.ensures in
    kept_same old _ c.requires.kept same refl

pub returns-then-full-clause-refused : goal.returns-then-full-clause-refused
returns-then-full-clause-refused c =
    let old : Machine = c.args.self.now in
    let is : IsClaimed old.tables c.turn_moment-moment.result c.in-Ok-Some.errand c.claim.new.self =
    subst (λ found. IfSome found (λ e. IsClaimed old.tables c.turn_moment-moment.result e c.claim.new.self)) c.in-Ok-Some.field-0-is
    c.in-Ok-Some.ensures.some in (
      limited old c.args.reading c.turn_moment-moment.result c.in-Ok-Some.errand c.claim.new.self c.requires.kept
          c.turn_moment-moment.ensures.moment (sym c.full-full.ensures.full ∙ c.if-full.true) is,
      refl,
    )

pub returns-then-broken-clause-kept : goal.returns-then-broken-clause-kept
returns-then-broken-clause-kept c =
    let old : Machine = c.args.self.now in
    let is : IsClaimed old.tables c.turn_moment-moment.result c.in-Ok-Some.errand c.claim.new.self =
    subst (λ found. IfSome found (λ e. IsClaimed old.tables c.turn_moment-moment.result e c.claim.new.self)) c.in-Ok-Some.field-0-is
    c.in-Ok-Some.ensures.some in
    let same = put_back_same old c.turn_moment-moment.result c.in-Ok-Some.errand c.claim.new.self c.put_back-then-broken.new.self
    c.requires.kept is c.put_back-then-broken.ensures in
    kept_same old _ c.requires.kept same refl

pub returns-then-broken-clause-refused : goal.returns-then-broken-clause-refused
returns-then-broken-clause-refused c =
    let old : Machine = c.args.self.now in
    let is : IsClaimed old.tables c.turn_moment-moment.result c.in-Ok-Some.errand c.claim.new.self =
    subst (λ found. IfSome found (λ e. IsClaimed old.tables c.turn_moment-moment.result e c.claim.new.self)) c.in-Ok-Some.field-0-is
    c.in-Ok-Some.ensures.some in (
      broken old c.args.reading c.turn_moment-moment.result c.in-Ok-Some.errand c.claim.new.self c.requires.kept
          c.turn_moment-moment.ensures.moment (sym c.full-full.ensures.full ∙ c.if-full.false) (sym c.requires.broken ∙ c.if-broken.true) is,
      refl,
    )

pub returns-clause-kept : goal.returns-clause-kept
returns-clause-kept c =
    let old : Machine = c.args.self.now in
    let is : IsClaimed old.tables c.turn_moment-moment.result c.in-Ok-Some.errand c.claim.new.self =
    subst (λ found. IfSome found (λ e. IsClaimed old.tables c.turn_moment-moment.result e c.claim.new.self)) c.in-Ok-Some.field-0-is
    c.in-Ok-Some.ensures.some in
    let held : Held = record { errand = c.in-Ok-Some.errand; reading = c.args.reading; is_moment = c.requires.reading } in
    claimed_book held c.turn_moment-moment.result
    (claim_made c.args.seat old _ held c.of.result.value c.turn_moment-moment.result c.control_count.result
    c.set.result.now c.requires.kept is (ap held_claim c.of.ensures) c.control_count.ensures.count c.set.ensures c.push.ensures.turns)
    (sym c.full-full.ensures.full ∙ c.if-full.false) (sym c.requires.broken ∙ c.if-broken.false) c.requires.reading c.requires.rests c.turn_moment-moment.ensures.moment is

pub returns-clause-held : goal.returns-clause-held
returns-clause-held c =
    let old : Machine = c.args.self.now in
    let is : IsClaimed old.tables c.turn_moment-moment.result c.in-Ok-Some.errand c.claim.new.self =
    subst (λ found. IfSome found (λ e. IsClaimed old.tables c.turn_moment-moment.result e c.claim.new.self)) c.in-Ok-Some.field-0-is
    c.in-Ok-Some.ensures.some in
    let held : Held = record { errand = c.in-Ok-Some.errand; reading = c.args.reading; is_moment = c.requires.reading } in
    let new : Machine = book_with old c.claim.new.self c.push.new.self (ap (λ (t : Tables). t.set) is.tables) in
    let made = claim_made c.args.seat old new held c.of.result.value c.turn_moment-moment.result c.control_count.result
    c.set.result.now c.requires.kept is (ap held_claim c.of.ensures) c.control_count.ensures.count c.set.ensures c.push.ensures.turns in
    (claimed held made c.requires.rests, added_of made)
