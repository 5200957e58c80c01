-- No confirmation, with a cause: on two opened ends the error header stands exactly where a negative confirmation announces it, among the units that an
-- end makes, on the line, and among those that the other end takes.
-- Assumes nothing.
use Rattle.std.specs.Prelude.{ℕ, ◌≡◌, Bool, true, false, cond, List, [], ◌∷◌, ◌++◌, eqb}
use Rattle.control.specs.StateTests.{is_receive, is_nothing}
use Rattle.session.specs.declared.Session.{Session}
use Rattle.calls.specs.Calls.{Verb, refusal_in}
use Rattle.calls.specs.UnitCounts.{is_request, is_negative_confirmation, is_error_header}
use Rattle.joined.specs.Joined.{At, acted, took}
use Rattle.joined.specs.Ends.{Lane, normal, expedited, Buffers, OpeningAccepted}
use Rattle.joined.specs.Histories.{Log}
use Rattle.joined.specs.Claim.{JoinedEnd, Pair, after}

-- ---- the units of a log, oldest first

-- those made on the normal lane
unfoldable pub units_made : Log → List (List ℕ)
units_made [] = []
units_made (acted v r us ∷ es) = units_made es ++ us normal
units_made (took l u r us ∷ es) = units_made es ++ us normal

-- those that accepted takes took from it
unfoldable pub units_taken : Log → List (List ℕ)
units_taken [] = []
units_taken (acted v r us ∷ es) = units_taken es
units_taken (took expedited u r us ∷ es) = units_taken es
units_taken (took normal u r us ∷ es) = cond (eqb (refusal_in r) 0) (units_taken es ++ (u ∷ [])) (units_taken es)

-- ---- an error header is announced

-- whether the next request is to be the error header: a negative confirmation announces it, the next request ends that, and any other unit changes nothing
abbrev pub announced_behind : Bool → List ℕ → Bool
announced_behind x u = cond (is_request u) false (cond (is_negative_confirmation u) true x)

unfoldable pub announced : Bool → List (List ℕ) → Bool
announced x [] = x
announced x (u ∷ us) = announced (announced_behind x u) us

-- each request is the error header exactly where that was announced
unfoldable pub AsAnnounced : Bool → List (List ℕ) → Type 0
AsAnnounced x [] = Unit {0}
AsAnnounced x (u ∷ us) = (is_request u ≡ true → is_error_header u ≡ x) × AsAnnounced (announced_behind x u) us

-- ---- the claim

-- One way, from x to y.
pub record Denials (x y : JoinedEnd) : Type 0 where
  -- the units made at x are those that y has taken and then those on the line, each once and in order
  pub conserved : units_made x.log ≡ units_taken y.log ++ y.waiting normal
  -- at x, and its flag error-due is on exactly until it has made what it announced
  pub made : AsAnnounced false (units_made x.log)
  pub due : x.end.end.control.error ≡ announced false (units_made x.log)
  -- at y, and on the line from there
  pub taken : AsAnnounced false (units_taken y.log)
  pub line : AsAnnounced (announced false (units_taken y.log)) (y.waiting normal)
  -- an accepted take of a negative confirmation leaves Receive with no mark, and that stays until the next accepted take of a request
  pub waits : announced false (units_taken y.log) ≡ true → (is_receive y.end.end.control.state ≡ true) × (is_nothing y.end.end.control.mark ≡ true)

pub record BothDenials (p : Pair) : Type 0 where
  pub out : Denials p.one p.two
  pub back : Denials p.two p.one

-- THE CAUSE COMES NEXT: after every list of calls from two accepted openings, joined or not
abbrev pub TheDenials : Type 0
TheDenials =
    (s t : Session) (b c : Buffers) (l : List (At Lane Verb))
    → OpeningAccepted s b
    → OpeningAccepted t c
    → BothDenials (after s t b c l)
