-- The laws of Defer, put together.
-- Assumes nothing.
use Rattle.calls.specs.DeferLaws.{Deferring}
use Rattle.calls.proofs.Prepared.{prepared_is, withdrawn_is, carried_is, refused_is, refuses_7, never_7, take_never_7}
use Rattle.calls.proofs.AsInSend.{pace_same, read_same, take_same, expedited_same}

pub deferring : Deferring
deferring =
    record {
      withdrawn = λ s d h. withdrawn_is s d h;
      carried_out = λ s d b h. let i = prepared_is s d h in rw i.1 (carried_is s d b i.0);
      refused = λ s d b h n. let i = prepared_is s d h in rw i.1 (refused_is s d b i.0 (rw i.1 at n));
      reads = λ s d buffer h. let i = prepared_is s d h in rw i.1 (read_same s d buffer i.0);
      paces = λ s d h. let i = prepared_is s d h in rw i.1 (pace_same s d i.0);
      takes = λ s d u h. let i = prepared_is s d h in rw i.1 (take_same s d u i.0);
      takes_expedited = λ s d u h. let i = prepared_is s d h in rw i.1 (expedited_same s d u i.0);
      only = λ s v h a z. refuses_7 s h v a z;
      allowed = λ s v h a. never_7 s h v a;
      no_take = take_never_7;
    }
