-- The definitions that the rows compute through, named once: a proof that unfolds `computed` unfolds them all.
-- Assumes nothing.
use Rattle.cells.specs.Cells.{front, written}
use Rattle.cells.specs.Equal.{same_bytes}
use Rattle.logical_record.specs.Walk.{then_walk}
use Rattle.logical_record.specs.Groups.{groups_from}
use Rattle.header.specs.Rules.{keeps, lowest_broken, header_good}
use Rattle.header.specs.Header.{header_bytes, fields_of}
use Rattle.header.specs.ExpeditedHeader.{expedited_good, broken_expedited, expedited_bytes, expedited_fields}
use Rattle.unit.specs.Ru.{ru_good}
use Rattle.unit.specs.ExpeditedUnit.{expedited_of}
use Rattle.unit.specs.Unit.{unit_bytes, unit_of}
use Rattle.pacing.specs.Pacing.{credit, advanced, answered}
use Rattle.control.specs.Within.{control_good}
use Rattle.transitions.specs.Transitions.{allocated, spilled, closed, deferred, withdrawn, confirmation_made, mark_answered, data_received, bid_received}
use Rattle.transitions.specs.Transitions.{positive_response_received, negative_response_received, confirmation_received}
use Rattle.transitions.specs.Transitions.{confirmation_denied, error_made, error_received, negative_confirmation_received}
use Rattle.sending.specs.Sending.{sending_good, request_made}
use Rattle.receiving.specs.Receiving.{receiving_good, request_received}
use Rattle.bind.specs.SessionBytes.{size_of, byte_of, size_byte}
use Rattle.session.specs.OpeningQuestions.{opening_refusal}
use Rattle.session.specs.Opening.{opened}
use Rattle.session.specs.BindOpening.{opened_by_bytes}
use Rattle.end.specs.Record.{record_good}
use Rattle.end.specs.Requests.{data_header}
use Rattle.end.specs.Allocate.{allocate_refusal, bid_made, allocate_decision, allocate}
use Rattle.end.specs.SendData.{send_refusal, bytes_kept, bytes_spilled, send_decision, send_cells, send_data}
use Rattle.end.specs.Close.{close_refusal, last_made, close_decision, close}
use Rattle.end.specs.Defer.{defer_refusal, defer_decision, defer, withdraw_refusal, withdraw_decision, withdraw}
use Rattle.end.specs.Confirmed.{confirmed_refusal, confirmed_decision, confirmed}
use Rattle.end.specs.SendError.{send_error_decision, send_error}
use Rattle.end.specs.RequestToSend.{request_refusal, request_decision, request_to_send}
use Rattle.end.specs.ReceiveExpedited.{receive_expedited_refusal, receive_expedited_decision, receive_expedited}
use Rattle.end.specs.ReceiveUnit.{receive_unit_refusal, data_joined, error_marked, bid_answered, credit_raised, receive_unit_decision, inbox_cells, receive_unit}
use Rattle.end.specs.Receive.{receive_refusal, copy_count, bytes_read, mark_read, receive_decision, inbox_moved, receive}
use Rattle.end.specs.SendPacingResponse.{send_pacing_response_refusal, send_pacing_response_decision, send_pacing_response}
use Rattle.calls.specs.Calls.{called, taken, taken_expedited}
use Rattle.calls.specs.UnitCounts.{among}
use Rattle.joined.specs.Ends.{acts, takes}
use Rattle.joined.specs.Histories as H
use Rattle.joined.specs.Denials.{units_made, units_taken, announced, AsAnnounced}
use Rattle.joined.specs.Signals.{signals_made, signals_told}

unfoldable pub computed : Unit {0}
unfolding front written same_bytes then_walk groups_from keeps lowest_broken header_good header_bytes fields_of ru_good unit_bytes unit_of credit advanced answered control_good allocated spilled closed deferred withdrawn confirmation_made mark_answered data_received bid_received positive_response_received negative_response_received confirmation_received confirmation_denied error_made error_received negative_confirmation_received sending_good request_made receiving_good request_received opening_refusal opened opened_by_bytes size_of byte_of size_byte record_good data_header allocate_refusal bid_made allocate_decision allocate send_refusal bytes_kept bytes_spilled send_decision send_cells send_data close_refusal last_made close_decision close defer_refusal defer_decision defer withdraw_refusal withdraw_decision withdraw confirmed_refusal confirmed_decision confirmed send_error_decision send_error receive_unit_refusal data_joined error_marked bid_answered credit_raised receive_unit_decision inbox_cells receive_unit receive_refusal copy_count bytes_read mark_read receive_decision inbox_moved receive send_pacing_response_refusal send_pacing_response_decision send_pacing_response called taken acts takes H.bytes_accepted H.bytes_read H.bytes_on_line H.pacing_responses_taken H.requests_made units_made units_taken announced AsAnnounced expedited_good broken_expedited expedited_bytes expedited_fields expedited_of request_refusal request_decision request_to_send receive_expedited_refusal receive_expedited_decision receive_expedited taken_expedited among signals_made signals_told
computed = tt
