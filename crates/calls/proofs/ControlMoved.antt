-- A call that changes the finite part and no more: both chains stay as they were, an end that may send still may, and question 5 stays answered; checked by computation
-- at every value of the finite part.
-- Assumes nothing.
use Rattle.calls.proofs.CallWords.{Bool, true, false, not, ◌&&◌, ◌||◌, ◌≡◌, refl, ap, join, left, right, or_right, may_allocate, may_confirm}
use Rattle.calls.proofs.CallWords.{positive_response_fits, negative_response_fits, confirmation_fits, may_send, is_nothing, agree, control_good, Control, within}
use Rattle.calls.proofs.CallWords.{allocated, confirmation_made, mark_answered, bid_received, positive_response_received, negative_response_received}
use Rattle.calls.proofs.CallWords.{confirmation_received, confirmation_denied, error_received, negative_confirmation_received}
use Rattle.bools.proofs.Tests.{off}
use Rattle.control.proofs.Agree.{agrees}
use Rattle.bools.proofs.Finite.{bools, at_bool}
use Rattle.control.specs.Questions.{state_fits}
use Rattle.control.proofs.FiniteControl.{all_controls, at_control}
use Rattle.transitions.proofs.KeptWithin.{allocated_keeps, answered_keeps, bid_keeps, confirmation_keeps, confirmed_keeps, positive_response_keeps}
use Rattle.transitions.proofs.KeptWithin.{negative_response_keeps, denied_keeps, error_keeps, negative_confirmation_keeps}

pub record Moved (c d : Control) : Type 0 where
  pub out : d.outchain ≡ c.outchain
  pub into : d.inchain ≡ c.inchain
  pub send : may_send d ≡ false → may_send c ≡ false
  pub keeps : (some none : Bool) → within c some none ≡ true → within d some none ≡ true

abbrev moves_at : Control → Control → Bool
moves_at c d = agree d.outchain c.outchain && (agree d.inchain c.inchain && (not (may_send c) || may_send d))

-- wherever the question is answered yes
moves : (Control → Bool) → (Control → Control) → Bool
moves asked next = bools.all (all_controls (λ c. not (asked c && control_good c) || moves_at c (next c)))

module _ (c : Control) (g : control_good c ≡ true) where
  moved : (asked : Control → Bool) (next : Control → Control) → moves asked next ≡ true → asked c ≡ true
      → ((some none : Bool) → within c some none ≡ true → within (next c) some none ≡ true) → Moved c (next c)
  unfolding moves
  moved asked next t a k =
      let d = next c in
      let h =
      or_right (not (asked c && control_good c)) (moves_at c d)
      (at_control (λ c. not (asked c && control_good c) || moves_at c (next c))
      (λ chain. at_bool (all_controls (λ c. not (asked c && control_good c) || moves_at c (next c))) t chain) c)
      (ap not (join (asked c) (control_good c) a g)) in
      let rest = right (agree d.outchain c.outchain) _ h in
      record {
        out = agrees d.outchain c.outchain (left (agree d.outchain c.outchain) _ h);
        into = agrees d.inchain c.inchain (left (agree d.inchain c.inchain) _ rest);
        send = off (may_send c) (may_send d) (right (agree d.inchain c.inchain) _ rest);
        keeps = k;
      }

  pub allocate_moves : may_allocate c ≡ true → Moved c (allocated c)
  unfolding moves control_good allocated
  allocate_moves a = moved may_allocate allocated refl a (λ x y. allocated_keeps c x y a)

  pub confirmed_moves : may_confirm c ≡ true → Moved c (confirmation_made c)
  unfolding moves control_good confirmation_made
  confirmed_moves a = moved may_confirm confirmation_made refl a (λ x y. confirmed_keeps c x y a)

  pub denied_moves : may_confirm c ≡ true → Moved c (confirmation_denied c)
  unfolding moves control_good confirmation_denied
  denied_moves a = moved may_confirm confirmation_denied refl a (λ x y. denied_keeps c x y a)

  pub error_moves : state_fits false c ≡ true → Moved c (error_received c)
  unfolding moves control_good error_received
  error_moves a = moved (state_fits false) error_received refl a (λ x y. error_keeps c x y a)

  pub mark_moves : not (is_nothing c.mark) ≡ true → Moved c (mark_answered c)
  unfolding moves control_good mark_answered
  mark_moves a = moved (λ x. not (is_nothing x.mark)) mark_answered refl a (λ x y. answered_keeps c x y a)

  pub bid_moves_lem : Moved c (bid_received c)
  unfolding moves control_good bid_received
  bid_moves_lem = moved (λ x. true) bid_received refl refl (bid_keeps c)

  pub positive_response_moves_lem : positive_response_fits c ≡ true → Moved c (positive_response_received c)
  unfolding moves control_good positive_response_received
  positive_response_moves_lem a = moved positive_response_fits positive_response_received refl a (λ x y. positive_response_keeps c x y a)

  pub negative_response_moves : negative_response_fits c ≡ true → Moved c (negative_response_received c)
  unfolding moves control_good negative_response_received
  negative_response_moves a = moved negative_response_fits negative_response_received refl a (λ x y. negative_response_keeps c x y a)

  pub confirmation_moves : confirmation_fits c ≡ true → Moved c (confirmation_received c)
  unfolding moves control_good confirmation_received
  confirmation_moves a = moved confirmation_fits confirmation_received refl a (λ x y. confirmation_keeps c x y a)

  pub negative_confirmation_moves : confirmation_fits c ≡ true → Moved c (negative_confirmation_received c)
  unfolding moves control_good negative_confirmation_received
  negative_confirmation_moves a = moved confirmation_fits negative_confirmation_received refl a (λ x y. negative_confirmation_keeps c x y a)
