-- `end::End::request_refusal` meets its contract: past three questions answered yes, the fourth gives the number.
-- Assumes nothing.
use mathlib.Core.Path.{sym, ◌∙◌}
use Rattle.answers.proofs.Outcomes.{yes_asked, one_asked}
use Rattle.end.specs.RequestToSend.{request_refusal}
use Rattle.end.proofs.End.request_refusal.Goals as goal

pub returns : goal.returns
unfolding request_refusal
returns c =
    rw (
      c.ask-4.ensures,
      sym c.unit_lent.ensures ∙ yes_asked _ _ c.in_ok-ask.was c.ask.ensures,
      sym c.record_good.ensures ∙ yes_asked _ _ c.in_ok-ask-2.was c.ask-2.ensures,
      sym c.may_request.ensures ∙ yes_asked _ _ c.in_ok-ask-3.was c.ask-3.ensures,
    )
    (one_asked _ _)
