-- A porch may go to another thread, so that threads may share it behind a lock: `porch_send`.
use denote.RattleType.{RattleType}
use denote.Ref.{NamedLft, ShrRef}
use denote.Param.Send.{IsSend, IsSync, AllSend, sendable, view_send, recorded_send, struct_send, shr_send}
use denote.Struct.Declared as declared
use Rattle.shared_door.specs.contracts.porch.Porch.TheInside as inside
use Rattle.std.specs.Prelude.{[], ◌∷◌}
use Rattle.std.proofs.Crossing.{crosses}
use Rattle.std.specs.contracts.snapshot.Snapshot as snapshot
use Rattle.std.specs.contracts.marker.PhantomData as phantom
use Rattle.atomic_table.proofs.shared.Seat.TheSendSync as seat
use Rattle.atomic_table.proofs.shared.Shared.TheSendSync as shared
use Rattle.atomic_table.proofs.send_lease.SendLease.TheSendSync as lease
use Rattle.growing_list.proofs.list.GrowingList.TheSendSync as list_sends
use Rattle.growing_list.specs.contracts.list.GrowingList as list_row
use Rattle.router_disk.specs.declared.source.Source as source
use Rattle.router_disk.specs.declared.sink.Sink as sink
use Rattle.turn_book.specs.declared.story.Story as story
use Rattle.turn_book.specs.contracts.hall.Hall as hall
use Rattle.turn_book.specs.contracts.hall.Pass as pass
use Rattle.bus_host.specs.declared.door.Door as door
use Rattle.shared_door.specs.declared.served.Served as served
use Rattle.shared_door.specs.declared.naming.Naming as naming
use Rattle.shared_door.specs.contracts.connection.Standing as standing
use Rattle.shared_door.specs.contracts.acts.Arrival as arrival
use Rattle.shared_door.specs.contracts.acts.Act as act
use Rattle.shared_door.specs.contracts.tickets.Tickets as tickets
use Rattle.shared_door.specs.contracts.porch.Porch as porch

pub snapshot_send : (C : RattleType) → IsSend (snapshot.the_row C)
snapshot_send C = search (sendable, crosses) depth 20

pub tickets_send : (C : RattleType) → IsSend (tickets.the_field C).row
tickets_send C = search (sendable, crosses, seat.the_send, shared.the_send, lease.the_send, snapshot_send) depth 20

pub list_send : (A : RattleType) → IsSend (list_row.the_field A).row
list_send A = search (sendable, crosses, list_sends.the_send) depth 20

pub hall_sync : (V T : RattleType) (s : story.Ghosts V.Denot T.Denot) → IsSend V → IsSync (hall.the_row V T s)
hall_sync V T s h = search (sendable, crosses, shared.the_sync, lease.the_sync) depth 20

pub pass_send : (V T : RattleType) (s : story.Ghosts V.Denot T.Denot) → IsSend V → IsSend (pass.the_field V T s).row
pass_send V T s h = search (sendable, crosses, seat.the_send) depth 20

pub standing_send : IsSend (standing.the_field).row
standing_send = search (sendable, crosses) depth 20

pub phantom_send : (N : RattleType) → IsSend N → IsSend (phantom.the_field N).row
phantom_send N h = search (sendable, crosses) depth 20

pub porch_send : (n : NamedLft) (V D N T I O : RattleType) (s : story.Ghosts V.Denot T.Denot) (v : served.Ghosts V.Denot I.Denot O.Denot T.Denot)
    (d : door.Ghosts D.Denot I.Denot O.Denot) (i : source.Ghosts I.Denot) (o : sink.Ghosts O.Denot) (k : naming.Ghosts N.Denot I.Denot O.Denot)
    → IsSend V → IsSend D → IsSend N → IsSend (porch.the_row n V D N T I O s v d i o k)
porch_send n V D N T I O s v d i o k a b c =
    let parts : AllSend (D ∷ ShrRef n.mir n.lft (hall.the_row V T s) ∷ (pass.the_field V T s).row ∷ (tickets.the_field (arrival.the_row I O T)).row ∷ (standing.the_field).row
    ∷ (list_row.the_field (act.the_row I O T)).row ∷ (phantom.the_field N).row ∷ []) =
    (b, (shr_send _ _ _ (hall_sync V T s a), (pass_send V T s a, (tickets_send (arrival.the_row I O T), (standing_send, (list_send (act.the_row I O T), (phantom_send N c, tt))))))) in
    let t = inside.the_type n V D N T I O s v d i o k in view_send _ _ _ _ _ (recorded_send _ t.D t.to t.to_one (struct_send (declared.shape t) parts))
