use denote.RattleType.{RattleType}
use denote.Param.Send.{IsSend}
use Rattle.growing_list.specs.contracts.list.Front.{the_row}
use Rattle.growing_list.proofs.Steps.{reached_keyless}

pub send : (T : RattleType) → IsSend (the_row T)
send T = record { owned = λ d vs. ((λ vss. (tt, ((λ uss. (tt, tt)), tt))), reached_keyless T.coded.code d.name d.items); leaving = λ k f vs. tt }
