-- Bytes are conserved in order: those accepted are those read, then those in the inbox, on the line and in the send buffer.
-- Assumes nothing.
use Rattle.joined.proofs.JoinedWords.{ℕ, List, [], ◌∷◌, ◌++◌, append-nil, ◌≡◌, sym, ap, ◌∙◌, DataHeader, Header, unit_of, header_received, ru_received}
use Rattle.joined.proofs.JoinedWords.{sort_of, data_of, bytes_on_line}
use mathlib.Core.List.{append_assoc}
use Rattle.header.specs.declared.Header.TheVariants.{Data}
use Rattle.calls.specs.UnitCounts.{data_ru}
use Rattle.calls.proofs.UnitsByHeader.{data_ru_lem, data_unit}

pub record Carried (accepted held : List ℕ) (line : List (List ℕ)) (read inbox : List ℕ) : Type 0 where
  pub bytes : accepted ≡ read ++ (inbox ++ (bytes_on_line line ++ held))

-- the bytes on a line once a unit has joined it
line_more : (us : List (List ℕ)) (n : ℕ) (h : Header) (ru : List ℕ) → bytes_on_line (us ++ (unit_of n h ru ∷ [])) ≡ bytes_on_line us ++ data_of (sort_of h) ru
unfolding bytes_on_line
line_more [] n h ru = ap (λ (bs : List ℕ). bs ++ []) (data_unit n h ru) ∙ append-nil (data_of (sort_of h) ru)
line_more (u ∷ us) n h ru = ap (λ (bs : List ℕ). data_ru u ++ bs) (line_more us n h ru) ∙ sym (append_assoc (data_ru u) (bytes_on_line us) (data_of (sort_of h) ru))

-- ---- the equation, call by call

-- bytes are accepted, and held behind those held before
pub carried_kept : {acc held read inbox : List ℕ} {line : List (List ℕ)} (new : List ℕ)
    → Carried acc held line read inbox → Carried (acc ++ new) (held ++ new) line read inbox
carried_kept {acc} {held} {read} {inbox} {line} new c = record { bytes = rw c.bytes (simp append_assoc) }

-- the first of the bytes held go out in a data unit
pub carried_sent : {acc read inbox : List ℕ} {line : List (List ℕ)} (n : ℕ) (d : DataHeader) (ru rest : List ℕ)
    → Carried acc (ru ++ rest) line read inbox → Carried acc rest (line ++ (unit_of n (Data d) ru ∷ [])) read inbox
carried_sent {acc} {read} {inbox} {line} n d ru rest c = record { bytes = c.bytes ∙ rw (line_more line n (Data d) ru) (simp append_assoc) }

-- a unit with no data goes out
pub carried_other : {acc held read inbox : List ℕ} {line : List (List ℕ)} (n : ℕ) (h : Header) (ru : List ℕ)
    → data_of (sort_of h) ru ≡ [] → Carried acc held line read inbox → Carried acc held (line ++ (unit_of n h ru ∷ [])) read inbox
carried_other {acc} {held} {read} {inbox} {line} n h ru z c = record { bytes = c.bytes ∙ rw (line_more line n h ru, z, append-nil (bytes_on_line line)) }

-- the first of the bytes in the inbox are read
pub carried_read : {acc held read inbox : List ℕ} {line : List (List ℕ)} (first rest : List ℕ)
    → inbox ≡ first ++ rest → Carried acc held line read inbox → Carried acc held line (read ++ first) rest
carried_read {acc} {held} {read} {inbox} {line} first rest e c = record { bytes = c.bytes ∙ rw e (simp append_assoc) }

-- the oldest unit is taken, and its data joins the inbox
pub carried_taken : {acc held read inbox : List ℕ} {line : List (List ℕ)} {u : List ℕ}
    → Carried acc held (u ∷ line) read inbox → Carried acc held line read (inbox ++ data_of (sort_of (header_received u)) (ru_received u))
unfolding bytes_on_line
carried_taken {acc} {held} {read} {inbox} {line} {u} c = record { bytes = c.bytes ∙ rw (data_ru_lem u) (simp append_assoc) }
