-- The claim that the code holds.
use Rattle.courier_run.specs.Claim.{Claim}
use Rattle.router_history.specs.declared.held.Held.{Held}

-- The claim that a `Held` is for.
-- Shown by: program_tests program.rt: an_endpoint_is_sent_the_event_once.
abbrev pub held_claim : Held → Claim
held_claim h = record {
  number = h.errand.claim.number;
  endpoint = h.errand.target.endpoint;
  text = h.errand.text;
  accepted = h.errand.accepted;
  age = h.errand.target.age;
  reading = h.reading;
  moment = h.errand.moment;
}
