use Rattle.delivery_duties.proofs.ClaimLemmas.{put_back}
use Rattle.delivery_duties.proofs.laws.a_claim_put_back_changes_nothing.Goals as goal

pub returns : goal.returns
returns c = put_back
