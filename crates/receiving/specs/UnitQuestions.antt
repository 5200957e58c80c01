-- A unit that is taken: the walk over it, and what is asked of it by its kind, its number and its RU.
-- Assumes nothing.
use Rattle.std.specs.Prelude.{ℕ, Bool, true, false, List, [], ◌∷◌, eqb, Result, Ok}
use Rattle.logical_record.specs.Positions.{is_whole}
use Rattle.logical_record.specs.Walk.{walk}
use Rattle.logical_record.specs.declared.BadLength.{BadLength}
use Rattle.logical_record.specs.declared.Position.{Position}
use Rattle.header.specs.Header.{is_first, begins_bracket}
use Rattle.unit.specs.Ru.{ru_good}
use Rattle.header.specs.declared.DataHeader.{DataHeader}
use Rattle.header.specs.declared.Header.{Header}
use Rattle.header.specs.declared.Header.TheVariants.{Data, Bid, ErrorDescription, PositiveBidResponse, NegativeBidResponse, Confirmation}
use Rattle.header.specs.declared.Header.TheVariants.{NegativeConfirmation, PacingResponse}
use Rattle.control.specs.Questions.{chain_fits, bracket_fits, bid_fits, state_fits}
use Rattle.control.specs.declared.Control.{Control}
use Rattle.answers.specs.Answers.{BAD_RU, BAD_NUMBER, BAD_CHAIN, BAD_BRACKET, BAD_STATE, BAD_PACING, BAD_RESPONSE, BAD_RECORDS}
use Rattle.receiving.specs.Receiving.{pacing_fits, is_next, records_fit}
use Rattle.receiving.specs.declared.Receiving.{Receiving}

-- data alone is walked over
abbrev pub walked_for : Header → Position → List ℕ → Result Position BadLength
walked_for (Data d) p ru = walk p ru
walked_for (Bid b) p ru = Ok p
walked_for (ErrorDescription b) p ru = Ok p
walked_for PositiveBidResponse p ru = Ok p
walked_for NegativeBidResponse p ru = Ok p
walked_for Confirmation p ru = Ok p
walked_for NegativeConfirmation p ru = Ok p
walked_for PacingResponse p ru = Ok p

-- of data
abbrev pub data_questions : Control → Receiving → DataHeader → ℕ → List ℕ → List (Bool × ℕ)
data_questions c r d n ru =
    (ru_good r.max (Data d) ru, BAD_RU)
    ∷ (pacing_fits r d.pacing, BAD_PACING)
    ∷ (is_next r n, BAD_NUMBER)
    ∷ (chain_fits (is_first d.begins) c, BAD_CHAIN)
    ∷ (bracket_fits (begins_bracket d.begins) c, BAD_BRACKET)
    ∷ (state_fits (begins_bracket d.begins) c, BAD_STATE)
    ∷ (records_fit d.ends (walk r.taken ru), BAD_RECORDS)
    ∷ []

-- of a bid, which counts as first in a chain
abbrev pub bid_questions : Control → Receiving → Bool → ℕ → List ℕ → List (Bool × ℕ)
bid_questions c r p n ru =
    (ru_good r.max (Bid p) ru, BAD_RU)
    ∷ (pacing_fits r p, BAD_PACING)
    ∷ (is_next r n, BAD_NUMBER)
    ∷ (chain_fits true c, BAD_CHAIN)
    ∷ (bid_fits c, BAD_BRACKET)
    ∷ []

-- of an error header: as of data that is first and last in its chain and has BB off; 29 asks only that the record is whole
abbrev pub error_questions : Control → Receiving → Bool → ℕ → List ℕ → List (Bool × ℕ)
error_questions c r p n ru =
    (ru_good r.max (ErrorDescription p) ru, BAD_RU)
    ∷ (pacing_fits r p, BAD_PACING)
    ∷ (is_next r n, BAD_NUMBER)
    ∷ (chain_fits true c, BAD_CHAIN)
    ∷ (bracket_fits false c, BAD_BRACKET)
    ∷ (state_fits false c, BAD_STATE)
    ∷ (is_whole r.taken, BAD_RECORDS)
    ∷ []

-- of a grant, a bid refusal, a confirmation and its refusal: `fits` says that one of its number is expected
abbrev pub response_questions : ℕ → Header → Bool → List ℕ → List (Bool × ℕ)
response_questions max h fits ru = (ru_good max h ru, BAD_RU) ∷ (fits, BAD_RESPONSE) ∷ []

-- of a pacing answer, numbered 0: `pending` says that the pacing request is unanswered
abbrev pub pacing_questions : ℕ → Bool → ℕ → List ℕ → List (Bool × ℕ)
pacing_questions max pending n ru = (ru_good max PacingResponse ru, BAD_RU) ∷ (pending, BAD_PACING) ∷ (eqb n 0, BAD_NUMBER) ∷ []
