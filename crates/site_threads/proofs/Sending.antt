-- Which types of a run may go to another thread, each from those of its fields.
use denote.RattleType.{RattleType}
use denote.Ref.{NamedLft}
use denote.Param.Send.{IsSend, sendable, view_send}
use denote.Param.SendFields.{declared_send}
use Rattle.std.specs.contracts.option.Option as Option
use Rattle.std.specs.contracts.snapshot.Snapshot as Snapshot
use Rattle.std.specs.contracts.alloc.Global as Heap
use Rattle.std.proofs.Crossing.{crosses, Vec-send}
use Rattle.event_json.proofs.site_numbers.SiteNo.TheSendSync.{the_send as site_send}
use Rattle.frame_core.specs.contracts.identifiers.MsgId as MsgId
use Rattle.frame_core.proofs.identifiers.MsgId.TheSendSync.{the_send as message_send}
use Rattle.site_core.specs.contracts.inputs.SiteInput as SiteInput
use Rattle.site_core.specs.contracts.states.SiteState as SiteState
use Rattle.wire_core.specs.contracts.wires.Seat as Seat
use Rattle.keeper_core.specs.declared.keepers.SiteKeeper as SiteKeeper
use Rattle.wire_core.proofs.wires.Seat.TheSendSync.{the_send as seat_send}
use Rattle.wire_core.proofs.wires.Wire.TheSendSync.{the_sync as wire_sync}
use Rattle.site_threads.specs.contracts.asked.Asked as Asked
use Rattle.site_threads.specs.contracts.asked.Asked.TheInside as Inside
use Rattle.site_threads.specs.contracts.jobs.Entry as Entry
use Rattle.site_threads.specs.contracts.jobs.Job as Job
use Rattle.site_threads.specs.contracts.sites.RunningSite as RunningSite
use Rattle.site_threads.specs.contracts.sites.RunningSite.TheInside as SiteInside
use Rattle.site_threads.specs.contracts.turns.TurnCause as TurnCause
use Rattle.site_threads.specs.declared.gates.Gate as Gate
use Rattle.site_threads.proofs.desks.DeskOut.TheSendSync.{the_send as out_send}
use Rattle.site_threads.proofs.jobs.Job.TheSendSync.{the_send as job_send}
use Rattle.site_threads.proofs.jobs.Reply.TheSendSync.{the_send as reply_send}
use Rattle.site_threads.proofs.stamps.Stamp.TheSendSync.{the_send as stamp_send}
use Rattle.site_threads.proofs.turns.TurnCause.TheSendSync.{the_send as cause_send}

option_send : (R : RattleType) → IsSend R → IsSend (Option.the_row R)
option_send R s = search sendable depth 12

start_send : IsSend (Snapshot.the_row SiteState.the_row)
start_send = search (crosses, sendable) depth 12

first_send : IsSend (Snapshot.the_row Seat.the_row)
first_send = search (crosses, sendable) depth 12

input_send : IsSend (Snapshot.the_row SiteInput.the_row)
input_send = search (crosses, sendable) depth 12

asked_send : IsSend Asked.the_row
asked_send = view_send Inside.the_row _ _ _ _ (declared_send Inside.the_type (option_send Job.the_row job_send, (input_send, tt)))

entry_send : IsSend Entry.the_row
entry_send = declared_send Entry.the_type (search sendable depth 12, (asked_send, (reply_send, tt)))

heap_send : IsSend Heap.the_row
heap_send = search sendable depth 20

pub running_send : (a : NamedLft) (K G : RattleType) (k : SiteKeeper.Ghosts K.Denot) (g : Gate.Ghosts G.Denot) → IsSend K → IsSend G → IsSend (RunningSite.the_row a K G k g)
running_send a K G k g s t =
    let owed = option_send MsgId.the_row message_send in
    let jobs = option_send Job.the_row job_send in
    let causes = option_send TurnCause.the_row cause_send in
    view_send (SiteInside.the_row a K G k g) _ _ _ _
    (declared_send (SiteInside.the_type a K G k g) (
      search (wire_sync, sendable) depth 12,
      (
        seat_send,
        (
          site_send,
          (
            option_send K s,
            (
              stamp_send,
              (
                Vec-send Entry.the_row entry_send,
                (
                  start_send,
                  (
                    first_send,
                    (
                      search sendable depth 12,
                      (
                        search sendable depth 12,
                        (search sendable depth 12, (search sendable depth 12, (out_send, (jobs, (causes, (search sendable depth 12, (search sendable depth 12, (heap_send, tt)))))))),
                      ),
                    ),
                  ),
                ),
              ),
            ),
          ),
        ),
      ),
    ))
