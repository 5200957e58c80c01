-- The same conversation where its bidder does not confirm: what is claimed of the two ends then, and what the laws of an error that is due say of the bidder's
-- end, written out in bytes and numbers.
-- Assumes nothing.
use Rattle.std.specs.Prelude.{ℕ, ◌≡◌, true, false, not, ◌&&◌, List, [], ◌∷◌, ◌++◌}
use Rattle.logical_record.specs.Positions.{is_whole}
use Rattle.logical_record.specs.declared.Position.TheVariants.{Between}
use Rattle.control.specs.StateTests.{is_send, is_receive, is_nothing, holds_send}
use Rattle.control.specs.declared.State.TheVariants.{Send, ConfirmOwed, ConfirmAwaited}
use Rattle.joined.specs.Joined.{At, run}
use Rattle.joined.specs.Ends.{Lane, normal, same_lane, acts, takes}
use Rattle.joined.specs.Denials.{units_made, units_taken, announced}
use Rattle.joined.specs.Claim.{Pair}
use Rattle.calls.specs.Calls.{Verb, confirm, flush, refusal_in, called}
use Rattle.calls.specs.UnitCounts.{is_error_header}
use Rattle.worked_examples.specs.Stations.{a_bid, a_pacing_answer}
use Rattle.claim_in_use.specs.Conversation.{ends, early, meanwhile, asking, denying, telling, talked, reply3}

-- ---- the units

abbrev pub negative : List ℕ
negative = 0x00 ∷ 0x03 ∷ 0x87 ∷ 0x30 ∷ 0x00 ∷ 0x08 ∷ 0x46 ∷ 0x00 ∷ 0x00 ∷ []

abbrev pub error_header : List ℕ
error_header = 0x00 ∷ 0x02 ∷ 0x0B ∷ 0x90 ∷ 0x00 ∷ 0x07 ∷ 0x07 ∷ 0x08 ∷ 0x89 ∷ 0x00 ∷ 0x00 ∷ 0x00 ∷ []

-- the first data unit of the reply
abbrev pub reply_unit : List ℕ
reply_unit = 0x00 ∷ 0x03 ∷ 0x02 ∷ 0x91 ∷ 0x00 ∷ 0x80 ∷ 0x06 ∷ 0x20 ∷ 0x21 ∷ 0x22 ∷ 0x23 ∷ 0x00 ∷ 0x05 ∷ []

abbrev pub next_unit : List ℕ
next_unit = 0x00 ∷ 0x04 ∷ 0x00 ∷ 0x90 ∷ 0x00 ∷ 0x30 ∷ 0x31 ∷ 0x32 ∷ 0x00 ∷ 0x02 ∷ 0xAB ∷ 0x01 ∷ 0x02 ∷ []

-- ---- the moments

-- the bidder owes a confirmation
abbrev pub until_owed : List (At Lane Verb)
until_owed = early ++ (meanwhile ++ asking)

abbrev pub owed : Pair
owed = run same_lane acts takes ends until_owed

-- it has refused it, and the error header is due
abbrev pub until_denied : List (At Lane Verb)
until_denied = until_owed ++ denying

abbrev pub denied : Pair
denied = run same_lane acts takes ends until_denied

-- the error header is on the line, and the first speaker has taken what announces it
abbrev pub until_told : List (At Lane Verb)
until_told = until_denied ++ telling

abbrev pub told : Pair
told = run same_lane acts takes ends until_told

-- ---- what happened, by computation

pub record DenialHappened : Type 0 where
  pub state_owed : owed.two.end.end.control.state ≡ ConfirmOwed
  pub accepted : refusal_in (called owed.two.end Verb.send_error).answer ≡ 0
  pub state_denied : denied.two.end.end.control.state ≡ Send
  pub partner_denied : denied.one.end.end.control.state ≡ ConfirmAwaited
  pub due_denied : denied.two.end.end.control.error ≡ true
  pub given_denied : denied.two.end.end.sending.given ≡ Between false
  pub flushed : refusal_in (called denied.two.end flush).answer ≡ 0
  pub due_told : told.two.end.end.control.error ≡ false
  pub made_told : units_made told.two.log ≡ a_bid ∷ a_pacing_answer ∷ negative ∷ error_header ∷ []
  pub taken_told : units_taken told.one.log ≡ a_bid ∷ a_pacing_answer ∷ negative ∷ []
  pub line_told : told.one.waiting normal ≡ error_header ∷ []
  -- at the end of the conversation
  pub made : units_made talked.two.log ≡ a_bid ∷ a_pacing_answer ∷ negative ∷ error_header ∷ reply_unit ∷ next_unit ∷ []
  pub taken : units_taken talked.one.log ≡ a_bid ∷ a_pacing_answer ∷ negative ∷ error_header ∷ reply_unit ∷ []

-- ---- what the claims and the laws say

pub record DenialSaid : Type 0 where
  pub not_both : holds_send ConfirmAwaited ≡ true → holds_send Send ≡ true → ⊥
  -- nothing given is unfinished while the error is due
  pub whole : is_send Send && not true ≡ false → is_whole (Between false) ≡ true
  -- error-due is on until the error header is made
  pub due_denied : true ≡ announced false (a_bid ∷ a_pacing_answer ∷ negative ∷ [])
  pub due_told : false ≡ announced false (a_bid ∷ a_pacing_answer ∷ negative ∷ error_header ∷ [])
  -- every unit made is taken, or on the line
  pub conserved : a_bid ∷ a_pacing_answer ∷ negative ∷ error_header ∷ [] ≡ (a_bid ∷ a_pacing_answer ∷ negative ∷ []) ++ (error_header ∷ [])
  -- the first speaker has taken the refusal: it receives and has no mark
  pub waits : (is_receive told.one.end.end.control.state ≡ true) × (is_nothing told.one.end.end.control.mark ≡ true)
  -- the next request, on the line and then taken, is the error header; the bid before it and the data behind it are not
  pub next_on_line : is_error_header error_header ≡ true
  pub next_made : is_error_header error_header ≡ true
  pub next_taken : is_error_header error_header ≡ true
  pub not_the_bid : is_error_header a_bid ≡ false
  pub not_the_reply : is_error_header reply_unit ≡ false
  -- send error makes the refusal under the number of the unit that asked, and leaves Send with the error due
  pub unit_made : negative ∷ [] ≡ negative ∷ []
  pub sends : denied.two.end.end.control.state ≡ Send
  -- flush makes the error header, and leaves Send with none due and no chain open
  pub header_made : error_header ∷ [] ≡ error_header ∷ []
  pub chain_closed : false ≡ false
  -- confirm and more data have to wait for it
  pub no_confirm : refusal_in (called denied.two.end confirm).answer ≡ 7
  pub no_data : refusal_in (called denied.two.end (Verb.send_data reply3)).answer ≡ 7

pub record OneDenial : Type 0 where
  pub happened : DenialHappened
  pub said : DenialSaid
