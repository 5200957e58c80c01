-- The words of this crate's proofs, passed on from where they are defined, so that a proof file lists them and not their homes.
-- Assumes nothing.
pub use Prim.Native.Nat.{ℕ, ◌<◌, ◌+◌, ◌*◌, ◌≤◌}
pub use borrow.Author.Tests.{eqb-true, leb-true, ne_eqb}
pub use lib.Dec.{eqb, leb}
pub use lib.ListN.{take, drop, length}
pub use mathlib.Core.Bool.{Bool, true, false, cond, not, ◌&&◌, ◌||◌}
pub use mathlib.Core.List.{List, [], ◌∷◌, ◌++◌}
pub use mathlib.Core.Path.{◌≡◌, refl, sym, ap, ◌∙◌}
pub use native.Mathlib.Omega.{arith}
pub use Rattle.bools.proofs.{Cases.cases, Tests.both, Tests.join, Tests.left, Tests.right, Tests.or_right}
unfoldable pub use Rattle.cells.specs.{Cells.front, Cells.written}
pub use Rattle.logical_record.specs.{Walk.walk, Walk.place_or, declared.Position.Position, declared.BadLength.BadLength}
pub use Rattle.std.specs.Prelude.{Result, Ok, Err}
pub use Rattle.header.specs.{Header.confirms, Rules.header_good, declared.ChainEnd.ChainEnd, declared.ChainEnd.TheVariants.Continues}
pub use Rattle.header.specs.{declared.ExpeditedHeader.ExpeditedHeader}
pub use Rattle.header.specs.{declared.ExpeditedHeader.TheVariants.Signal, declared.ExpeditedHeader.TheVariants.SignalResponse}
pub use Rattle.header.specs.{declared.ChainEnd.TheVariants.Last, declared.DataHeader.DataHeader, declared.Follows.Follows, declared.Header.Header}
pub use Rattle.unit.specs.{Ru.bid_ru, Ru.error_ru, Ru.negative_confirmation_ru, Ru.fixed_ru, Unit.RU_START, Unit.number_in, Unit.header_in, Sequence.next_number}
unfoldable pub use Rattle.unit.specs.{Ru.ru_good, Unit.unit_of, ExpeditedUnit.expedited_of}
pub use Rattle.unit.specs.{ExpeditedUnit.expedited_ru}
pub use Rattle.unit.proofs.{UnitLaws.unit_length, ExpeditedUnits.expedited_length}
pub use Rattle.pacing.specs.{Pacing.paced, Pacing.has_credit}
unfoldable pub use Rattle.pacing.specs.{Pacing.advanced, Pacing.answered}
pub use Rattle.control.specs.{Questions.may_allocate, Questions.may_confirm, Questions.positive_response_fits, Questions.negative_response_fits}
pub use Rattle.control.specs.{Questions.confirmation_fits, StateTests.is_send, StateTests.holds_send, StateTests.is_nothing, StateTests.agree}
pub use Rattle.control.specs.{StateTests.is_first_speaker}
pub use Rattle.control.specs.{declared.Control.Control, declared.Deferred.Deferred, Questions.may_send, Questions.may_withdraw}
unfoldable pub use Rattle.control.specs.{Within.control_good}
pub use Rattle.control.proofs.{Within.within}
pub use Rattle.transitions.specs.{Transitions.bid_answer}
unfoldable pub use Rattle.transitions.specs.{Transitions.allocated, Transitions.confirmation_made, Transitions.mark_answered, Transitions.bid_received}
unfoldable pub use Rattle.transitions.specs.{Transitions.positive_response_received, Transitions.negative_response_received}
unfoldable pub use Rattle.transitions.specs.{Transitions.confirmation_received, Transitions.closed, Transitions.deferred, Transitions.withdrawn}
unfoldable pub use Rattle.transitions.specs.{Transitions.confirmation_denied, Transitions.error_made, Transitions.error_received}
unfoldable pub use Rattle.transitions.specs.{Transitions.negative_confirmation_received}
pub use Rattle.answers.specs.{Answers.accepted, Answers.refused, Answers.refused_naming, FirstNo.first_no}
pub use Rattle.answers.proofs.{Rows.yes}
pub use Rattle.expedited.specs.{Signals.signal_made, Signals.signal_taken, Signals.response_taken, Signals.unit_taken}
pub use Rattle.expedited.specs.{Takes.header_taken, Takes.rule_taken}
unfoldable pub use Rattle.receiving.specs.{Receiving.request_received}
pub use Rattle.receiving.specs.{Receiving.window_answered}
unfoldable pub use Rattle.sending.specs.{Sending.request_made}
pub use Rattle.sending.specs.{Sending.keeps}
unfoldable pub use Rattle.end.specs.{Allocate.bid_made, Allocate.allocate_refusal, Allocate.allocate_decision, Allocate.allocate, Close.last_made}
unfoldable pub use Rattle.end.specs.{Defer.defer_refusal, Defer.defer_decision, Defer.defer, Defer.withdraw_refusal, Defer.withdraw_decision, Defer.withdraw}
unfoldable pub use Rattle.end.specs.{Close.close_refusal, Close.close_decision, Close.close, Confirmed.confirmed_refusal, Confirmed.confirmed_decision}
unfoldable pub use Rattle.end.specs.{Confirmed.confirmed, SendPacingResponse.send_pacing_response_refusal, SendPacingResponse.send_pacing_response_decision}
unfoldable pub use Rattle.end.specs.{SendPacingResponse.send_pacing_response, Receive.bytes_read, Receive.inbox_moved, Receive.receive_refusal}
unfoldable pub use Rattle.end.specs.{Receive.mark_read, Receive.receive_decision, Receive.receive, ReceiveUnit.data_joined, ReceiveUnit.bid_answered}
unfoldable pub use Rattle.end.specs.{RequestToSend.request_refusal, RequestToSend.request_decision, RequestToSend.request_to_send}
unfoldable pub use Rattle.end.specs.{ReceiveExpedited.receive_expedited_refusal, ReceiveExpedited.receive_expedited_decision}
unfoldable pub use Rattle.end.specs.{ReceiveExpedited.receive_expedited}
unfoldable pub use Rattle.end.specs.{SendError.send_error_decision, SendError.send_error, ReceiveUnit.error_marked}
unfoldable pub use Rattle.end.specs.{ReceiveUnit.credit_raised, ReceiveUnit.receive_unit_refusal, ReceiveUnit.receive_unit_decision}
unfoldable pub use Rattle.end.specs.{ReceiveUnit.receive_unit, Requests.data_header, SendData.bytes_kept, SendData.bytes_spilled, SendData.send_refusal}
unfoldable pub use Rattle.end.specs.{SendData.send_decision, SendData.send_data, Record.record_good}
pub use Rattle.end.specs.{Close.nothing_goes, Close.closing, Outcome.with_control, Outcome.with_sending, Outcome.with_receiving, Outcome.with_expedited, Outcome.Decision, Outcome.decided, Receive.some_held}
pub use Rattle.end.specs.{ReceiveUnit.rule_named, ReceiveUnit.ru_received, ReceiveUnit.header_received, SendData.held_bytes, SendData.gone}
pub use Rattle.end.specs.{declared.End.End, declared.Done.Done}
pub use Rattle.answers.specs.declared.ReadAnswer.{ReadAnswer}
pub use Rattle.end.proofs.{RecordGood.facts}
pub use Rattle.calls.specs.{Calls.Called, Calls.Station, Calls.Verb, Calls.refusal_in, Laws.AllBytes, Laws.BytesOf, UnitCounts.count}
pub use Rattle.calls.specs.{UnitCounts.is_pacing_response, UnitCounts.is_request, UnitCounts.requests_among}
unfoldable pub use Rattle.calls.specs.{Calls.called, Calls.taken, Calls.taken_expedited, UnitCounts.among}
