-- The ends that are joined are the ends of crate `end` with the cells lent at opening: each call is the one function of crate `calls`, and what it makes joins
-- a lane.
-- Assumes nothing.
use Rattle.std.specs.Prelude.{ℕ, List, [], ◌≡◌, eqb, length}
use Rattle.session.specs.Opening as O
use Rattle.session.specs.declared.Session.{Session}
use Rattle.calls.specs.Calls.{Station, Verb, Reply, refusal_in, Called, called, taken, taken_expedited}
use Rattle.joined.specs.Lanes.{Lines, none}
use Rattle.joined.specs.Joined.{Acted, Took, Side, Both}

-- The lanes between two ends: the normal one, and the expedited one, on which signals and their responses run.
pub data Lane : Type 0 where
  normal : Lane
  expedited : Lane
  deriving Discrete as same_lane

-- units of the normal lane, and units of the expedited one
abbrev pub by_lane : List (List ℕ) → List (List ℕ) → Lines Lane (List ℕ)
by_lane us vs normal = us
by_lane us vs expedited = vs

-- units on the normal lane, and none on the other
abbrev pub on_normal : List (List ℕ) → Lines Lane (List ℕ)
on_normal us = by_lane us []

-- units on the expedited lane, and none on the other
abbrev pub on_expedited : List (List ℕ) → Lines Lane (List ℕ)
on_expedited us = by_lane [] us

-- what a call leaves, its unit on the lane that it is for
abbrev pub on_lanes : Called → Acted Lane Station Reply (List ℕ)
on_lanes m = record { end = m.end; answer = m.answer; sent = by_lane m.sent m.expedited }

unfoldable pub acts : Station → Verb → Acted Lane Station Reply (List ℕ)
acts s v = on_lanes (called s v)

-- a unit that is taken goes from its line unless it is refused
abbrev pub took_on_lanes : Called → Took Lane Station Reply (List ℕ)
took_on_lanes m = record { end = m.end; answer = m.answer; sent = by_lane m.sent m.expedited; removed = eqb (refusal_in m.answer) 0 }

unfoldable pub takes : Lane → Station → List ℕ → Took Lane Station Reply (List ℕ)
takes normal s u = took_on_lanes (taken s u)
takes expedited s u = took_on_lanes (taken_expedited s u)

-- ---- openings

-- the buffers lent at opening, with any cells in them
pub record Buffers : Type 0 where
  pub send : List ℕ
  pub unit : List ℕ
  pub inbox : List ℕ

abbrev pub opened_with : Session → Buffers → Side Lane Station Verb Reply (List ℕ)
opened_with s b =
    record {
      end =
          record {
            end = (O.opened s (length b.send) (length b.unit) (length b.inbox)).end;
            send = b.send;
            unit = b.unit;
            inbox = b.inbox;
          };
      waiting = none;
      log = [];
    }

abbrev pub OpeningAccepted : Session → Buffers → Type 0
OpeningAccepted s b = (O.opened s (length b.send) (length b.unit) (length b.inbox)).answer.refusal ≡ 0

-- two accepted openings that are joined: one first speaker, one bidder; each one's sending W and M are the other's receiving ones
pub record JoinedOpenings (s t : Session) (b c : Buffers) : Type 0 where
  pub speaker : s.role ≡ 0
  pub bidder : t.role ≡ 1
  pub window_out : s.outwindow ≡ t.inwindow
  pub window_back : t.outwindow ≡ s.inwindow
  pub max_out : s.outmax ≡ t.inmax
  pub max_back : t.outmax ≡ s.inmax
  pub one : OpeningAccepted s b
  pub two : OpeningAccepted t c

-- the two ends as opened: the first speaker is one, the bidder two; the lines are empty
abbrev pub opened_both : Session → Session → Buffers → Buffers → Both Lane Station Verb Reply (List ℕ)
opened_both s t b c = record { one = opened_with s b; two = opened_with t c }
