-- The words of this crate's proofs, passed on from where they are defined, so that a proof file lists them and not their homes.
-- Assumes nothing.
pub use Prim.Native.Nat.{ℕ, ◌+◌, ◌*◌, ◌-◌, ◌≤◌, ◌<◌}
pub use borrow.Author.Tests.{le-leb, eq-eqb}
pub use lib.Dec.{eqb, leb}
pub use lib.ListN.{length, take, drop, length-drop}
pub use lib.Seq.{take-take, length-take-le}
pub use mathlib.Core.Bool.{Bool, true, false, not, cond, ◌&&◌, ◌||◌}
pub use mathlib.Core.HLevel.{Discrete}
pub use mathlib.Core.List.{List, [], ◌∷◌, ◌++◌, append-nil}
pub use mathlib.Core.Path.{◌≡◌, refl, sym, ap, ◌∙◌, subst, fun_ext}
pub use native.Mathlib.Omega.{arith}
pub use Rattle.bools.proofs.{Cases.never, Cases.cases, Cases.on, Tests.left, Tests.both, Tests.or_right}
pub use Rattle.cells.specs.{Cells.front, Cells.written}
pub use Rattle.logical_record.specs.{Positions.is_whole, Records.ended, Walk.walk, Walk.place_or, declared.Position.Position, declared.BadLength.BadLength}
pub use Rattle.std.specs.Prelude.{Result, Ok, Err}
unfoldable pub use Rattle.logical_record.specs.{Walk.then_walk}
pub use Rattle.logical_record.proofs.{Walks.walk_append, Walks.walk_prefix, Walks.Through, Walks.same_position}
pub use Rattle.header.specs.{Header.is_first, Header.begins_bracket, Rules.header_good, declared.ChainBegin.TheVariants.Continued}
pub use Rattle.header.specs.{declared.ChainBegin.TheVariants.First, declared.ChainBegin.TheVariants.FirstWithBracket, declared.ChainEnd.ChainEnd}
pub use Rattle.header.specs.{declared.ChainEnd.TheVariants.Continues, declared.ChainEnd.TheVariants.Last, declared.DataHeader.DataHeader}
pub use Rattle.header.specs.{declared.Follows.Follows, declared.Follows.TheVariants.Stay, declared.Follows.TheVariants.ChangeDirection}
pub use Rattle.header.specs.{declared.Follows.TheVariants.EndBracket, declared.Header.Header}
pub use Rattle.unit.specs.{Ru.marks, Ru.fixed_ru, Ru.bid_ru, Ru.error_ru, Ru.negative_confirmation_ru, Unit.RU_START, Unit.unit_of, Unit.number_in, Unit.header_in, Sequence.next_number}
unfoldable pub use Rattle.unit.specs.{Ru.ru_good}
pub use Rattle.unit.proofs.{UnitLaws.unit_number}
pub use Rattle.pacing.specs.{Pacing.has_credit, Pacing.paced}
unfoldable pub use Rattle.pacing.specs.{Pacing.advanced, Pacing.answered, Pacing.credit}
pub use Rattle.control.specs.{Questions.confirmation_fits, Questions.may_send, StateTests.agree, StateTests.is_first_speaker, StateTests.is_bidder, StateTests.is_reset}
pub use Rattle.control.specs.{StateTests.is_receive, StateTests.is_confirm_awaited, StateTests.is_nothing, StateTests.is_send, StateTests.holds_send}
pub use Rattle.control.specs.{declared.Control.Control}
pub use Rattle.control.specs.{declared.Role.Role, declared.Role.TheVariants.FirstSpeaker, declared.Role.TheVariants.Bidder, declared.State.State}
pub use Rattle.control.specs.{declared.WhatReceived.WhatReceived}
pub use Rattle.control.proofs.{States.send_is, States.sending_holds, States.sending_clear}
pub use Rattle.transitions.specs.{Transitions.bid_answer, Transitions.after_last, Transitions.after_owed, Transitions.mark_of, Transitions.begin_of}
unfoldable pub use Rattle.transitions.specs.{Transitions.closed, Transitions.spilled, Transitions.confirmation_made, Transitions.data_received}
unfoldable pub use Rattle.transitions.specs.{Transitions.deferred, Transitions.withdrawn, Transitions.confirmation_denied, Transitions.error_made}
unfoldable pub use Rattle.transitions.specs.{Transitions.error_received, Transitions.negative_confirmation_received}
pub use Rattle.answers.specs.{Answers.read_refused, Answers.accepted}
unfoldable pub use Rattle.receiving.specs.{Receiving.request_received}
pub use Rattle.receiving.specs.{BytesRead.rest_bytes}
unfoldable pub use Rattle.sending.specs.{Sending.request_made}
pub use Rattle.session.specs.{declared.Session.Session, Opening.fresh_end}
unfoldable pub use Rattle.end.specs.{Allocate.bid_made, Receive.bytes_read, Receive.copy_count, ReceiveUnit.data_joined}
unfoldable pub use Rattle.end.specs.{ReceiveUnit.bid_answered, ReceiveUnit.error_marked, ReceiveUnit.credit_raised, ReceiveUnit.receive_unit_refusal, Requests.data_header}
unfoldable pub use Rattle.end.specs.{SendData.bytes_kept, SendData.bytes_spilled}
pub use Rattle.end.specs.{Close.closing, Receive.record_rest, ReceiveUnit.header_received, ReceiveUnit.ru_received, ReceiveUnit.rule_named, Record.record_good}
pub use Rattle.end.specs.{SendData.held_bytes}
pub use Rattle.end.specs.{SendData.gone, declared.End.End}
pub use Rattle.end.specs.{Outcome.with_expedited}
pub use Rattle.expedited.specs.{declared.Expedited.Expedited}
pub use Rattle.end.proofs.{RecordGood.facts}
pub use Rattle.calls.specs.{Calls.Station, Calls.Reply, Calls.Verb, UnitCounts.count, UnitCounts.is_pacing_response, UnitCounts.requests_among}
unfoldable pub use Rattle.calls.specs.{UnitCounts.among}
pub use Rattle.calls.proofs.{CallCases.allocate_cases, CallCases.bid_number, CallCases.close_cases, CallCases.confirmed_cases}
pub use Rattle.calls.proofs.{CallCases.defer_cases, CallCases.withdraw_cases, CallCases.send_error_cases, CallCases.request_cases, CallCases.expedited_cases, CallCases.sent_end}
pub use Rattle.calls.proofs.{CallCases.pacing_response_cases, CallCases.read_cases, CallCases.send_cases, CallCases.spilled_ru, CallCases.take_cases}
pub use Rattle.calls.proofs.{CallCases.ReadAsked, CallCases.SendAsked, CallCases.read_count, CallCases.spilled_unit, CallCases.control_within}
pub use Rattle.calls.proofs.{CallCases.TakeAsked, ControlMoved.allocate_moves, ControlMoved.mark_moves, RecordStaysGood.opened_is, UnitsByHeader.Sort}
pub use Rattle.calls.proofs.{UnitsByHeader.sort_of, UnitsByHeader.is_asking, UnitsByHeader.taken_header, UnitsByHeader.is_pacing, UnitsByHeader.bit_of}
pub use Rattle.calls.proofs.{UnitsByHeader.answer_sort, UnitsByHeader.data_of}
pub use Rattle.joined.specs.{Claim.Pair, Ends.Lane, Ends.normal, Ends.same_lane, Ends.Buffers, Ends.OpeningAccepted, Ends.opened_with}
pub use Rattle.joined.specs.{Ends.opened_both, Ends.on_normal, Ends.on_expedited, Ends.expedited, Histories.bytes_in_send_buffer, Histories.Log, Histories.bytes_in_inbox}
pub use Rattle.joined.specs.{Histories.is_breach, Joined.Acted, Joined.Took, Joined.At, Joined.Call, Joined.act, Joined.first, Joined.second}
pub use Rattle.joined.specs.{Joined.Both, Joined.Local, Joined.Event, Joined.took, Joined.take_oldest, Joined.apply, Joined.run, Joined.acted}
pub use Rattle.joined.specs.{Lanes.Lines, Lanes.join, Lanes.put}
unfoldable pub use Rattle.joined.specs.{Ends.acts, Ends.takes, Histories.bytes_accepted, Histories.bytes_on_line, Histories.requests_made}
unfoldable pub use Rattle.joined.specs.{Histories.pacing_responses_taken, Histories.breaches, Histories.bad_reads, Histories.CompleteIsRight}
unfoldable pub use Rattle.joined.specs.{Histories.MoreIsRight}
unfoldable pub use Rattle.joined.specs.{Histories.NoneCrosses, Joined.step}
