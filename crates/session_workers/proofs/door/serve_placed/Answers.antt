use denote.Param as param
use denote.Param.Send.{IsSend, IsSync, sendable, shr_sync, param_send, param_sync, arg_send, arg_sync}
use denote.Exit as exit
use denote.Struct.Field as field
use denote.Struct.Tuple as tuple
use mir.Syntax.{named}
use Rattle.std.specs.Prelude.{[], ◌∷◌, codes}
use Rattle.std.proofs.Crossing.{crosses}
use Rattle.std.specs.contracts.alloc.Global as global
use Rattle.turn_book.specs.contracts.hall.Hall as hall
use Rattle.router_history.specs.contracts.book.Book as book
use Rattle.router_history.specs.contracts.book.BookStory as story
use Rattle.router_history.specs.contracts.history.Turn as turn
use Rattle.shared_door.proofs.CrossingLemmas.{hall_sync}
use Rattle.shared_door.specs.Shown.{shown_by}
use Rattle.door_workers.proofs.ServingLemmas.{learns_again}
use Rattle.session_workers.proofs.ServedLemmas.{served_on}
use Rattle.router_sessions.specs.Desk.{seen_by, turns_seen}
use Rattle.router_history.specs.Visit.{IsVisit, visit_lasts, broken_stays}
use Rattle.router_history.proofs.MarkLemmas.{breaks_so}
use Rattle.router_history.proofs.MovingLemmas.{book_send}
use Rattle.atomic_table.below.core.specs.contracts.marker.ClosureMark as mark
use Rattle.session_workers.specs.contracts.clerk.Clerk as clerk
use Rattle.session_workers.specs.Jobs.{maker}
use Rattle.session_workers.proofs.MovingLemmas.{mark_sync, clerk_sync, three_sync, four_sync}
use Rattle.session_workers.proofs.door.serve_placed.Goals as goal

pub serve_door-serving-requires-send-V : goal.serve_door-serving-requires-send-V
serve_door-serving-requires-send-V g c κs lives =
    let J = param.param 0 g.row.J in let j : IsSend J = search (sendable, c.type_bounds.send-J) in
    param_send 0 _ (arg_send _ exit.no _ (book_send J j))

pub serve_door-serving-requires-sync-W : goal.serve_door-serving-requires-sync-W
serve_door-serving-requires-sync-W g c κs lives =
    let J = param.param 0 g.row.J in let R = param.param 1 g.row.Rt in let G = param.param 5 g.row.G in let A = global.the_row in
    let s = story.TheImpl.ghosts J g.J.Disk story.TheImpl.no_dict in let H = hall.the_row (book.the_row J) turn.the_row s in
    let N = tuple.TupleAt (40 ∷ 44 ∷ 41 ∷ []) (param.param 6 g.row.D-In ∷ param.param 7 g.row.D-Out ∷ []) in let X = mark.the_row N in
    let j : IsSend J = search (sendable, c.type_bounds.send-J) in
    let r : IsSync R = search (sendable, c.type_bounds.sync-Rt) in
    let f : IsSync G = search (sendable, c.type_bounds.sync-G) in
    let m : IsSync A = search (sendable, crosses) depth 20 in
    let h : IsSync H = hall_sync (book.the_row J) turn.the_row s (book_send J j) in
    let k = κs.1.1.1.1.1.1.1.1.1.1.1.1 in let l = k.1.1.1.1 in
    let R1 = (field.shr_ref_field record { mir = named 12; lft = k.0 } R tt).row in
    let M1 = (field.shr_ref_field record { mir = named 13; lft = k.1.0 } A tt).row in
    let F1 = (field.shr_ref_field record { mir = named 14; lft = k.1.1.0 } G tt).row in
    let H1 = (field.shr_ref_field record { mir = named 15; lft = k.1.1.1.0 } H tt).row in
    let R2 = (field.shr_ref_field record { mir = named 16; lft = l.0 } R tt).row in
    let M2 = (field.shr_ref_field record { mir = named 17; lft = l.1.0 } A tt).row in
    let H2 = (field.shr_ref_field record { mir = named 18; lft = l.1.1.0 } H tt).row in
    let R3 = (field.shr_ref_field record { mir = named 19; lft = l.1.1.1.0 } R tt).row in
    let M3 = (field.shr_ref_field record { mir = named 20; lft = l.1.1.1.1.0 } A tt).row in
    let H3 = (field.shr_ref_field record { mir = named 21; lft = l.1.1.1.1.1.0 } H tt).row in
    let one = codes "session_workers::door::fn::serve_placed::closure+Self" in
    let two = codes "session_workers::door::fn::serve_placed::closure+2+Self" in
    let three = codes "session_workers::door::fn::serve_placed::closure+3+Self" in
    let S1 = tuple.TupleAt one (R1 ∷ M1 ∷ F1 ∷ H1 ∷ []) in
    let S2 = tuple.TupleAt two (R2 ∷ M2 ∷ H2 ∷ []) in
    let S3 = tuple.TupleAt three (R3 ∷ M3 ∷ H3 ∷ X ∷ []) in
    let s1 : IsSync S1 = four_sync one R1 M1 F1 H1 (shr_sync _ _ _ r) (shr_sync _ _ _ m) (shr_sync _ _ _ f) (shr_sync _ _ _ h) in
    let s2 : IsSync S2 = three_sync two R2 M2 H2 (shr_sync _ _ _ r) (shr_sync _ _ _ m) (shr_sync _ _ _ h) in
    let s3 : IsSync S3 = four_sync three R3 M3 H3 X (shr_sync _ _ _ r) (shr_sync _ _ _ m) (shr_sync _ _ _ h) (mark_sync N) in
    param_sync 4 _ (arg_sync _ exit.no (clerk.the_row S1 S2 S3) (clerk_sync S1 S2 S3 s1 s2 s3))

pub returns-clause-more : goal.returns-clause-more
returns-clause-more g c =
    learns_again maker c.args.pass.now.seat.me.0 c.serve_door-serving.new.pass.seat.me.0 (seen_by c.look_after.new.pass.seat)
    c.serve_door-serving.ensures.pass.1 c.serve_door-serving.ensures.more c.look_after.ensures.more

pub returns-clause-served : goal.returns-clause-served
returns-clause-served g c = λ h.
    let (served, done) = c.serve_door-serving.ensures.served h in (
      served_on (shown_by g.D.Door.faults g.D.Door.ahead g.D.Door.given g.D.Door.ended g.D.Door.gave g.D.Door.took_back g.D.Door.closed)
          (IsVisit g.D.In.Source.gave g.D.Out.Sink.wrote g.D.In.Source.faults g.D.Out.Sink.faults)
          (visit_lasts g.D.In.Source.gave g.D.Out.Sink.wrote g.D.In.Source.faults g.D.Out.Sink.faults) c.args.connections c.args.door
          c.serve_door-serving.result.door (seen_by c.serve_door-serving.new.pass.seat) (seen_by c.look_after.new.pass.seat) c.serve_door-serving.result.end served
          c.look_after.ensures.more.0,
      done,
    )

pub returns-clause-stopped : goal.returns-clause-stopped
returns-clause-stopped g c = λ is.
    let after = c.look_after in
    breaks_so (turns_seen after.new.pass.seat) (after.ensures.book (λ none. absurd (cc (is, none)))).legal
    (broken_stays (seen_by c.serve_door-serving.new.pass.seat) (seen_by after.new.pass.seat) after.ensures.more.0 (c.serve_door-serving.ensures.stopped is))
