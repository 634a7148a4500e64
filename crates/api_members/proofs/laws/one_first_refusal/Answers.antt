use Rattle.api_members.proofs.OneLemmas.{sound_no_first, one_first_refusal}
use Rattle.api_members.proofs.laws.one_first_refusal.Goals as goal

pub returns : goal.returns
returns c = record { one = one_first_refusal; sound = sound_no_first }
