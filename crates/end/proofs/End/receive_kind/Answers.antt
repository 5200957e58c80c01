-- `end::End::receive_kind` meets its contract. At each kind of header it is that kind's effect; by `joined_room` data has room.
-- Assumes nothing.
use mathlib.Core.Path.{◌∙◌}
use Rattle.end.proofs.RoomToReceive.{joined_room}
use Rattle.end.proofs.End.receive_kind.Goals as goal

pub join_data-requires : goal.join_data-requires
join_data-requires c = let a = c.args in
    let p = c.requires in
    (p.2 ∙ rw c.in-Data.is, joined_room a.self a.heading.header _ a.heading.number a.ru.now p.0 c.in-Data.is p.1)
