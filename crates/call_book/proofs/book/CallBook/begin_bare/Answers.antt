use Rattle.std.proofs.Common.{◌≡◌, List, ap, ◌∙◌}
use Rattle.call_book.specs.declared.lane.LaneName.{LaneName}
use Rattle.call_book.specs.declared.lane.CallLane.{CallLane}
use Rattle.call_book.specs.declared.entry.CallEntry.{CallEntry}
use Rattle.call_book.specs.declared.standing.Room.{Room}
use Rattle.call_book.specs.declared.standing.Room.TheVariants as rooms
use Rattle.call_book.specs.Lanes.{bare_lane, put_lane, raise_lane}
use Rattle.call_book.specs.Entries.{without_lane}
use Rattle.call_book.specs.Book.{CallBookState}
use Rattle.call_book.specs.Turns.{room_of, added}
use Rattle.call_book.proofs.Lasts.{entry_at-without_lane}
use Rattle.call_book.proofs.Steps.{book_of, bare_zero, bare_full, bare_wants, bare_new}
use Rattle.call_book.proofs.book.CallBook.begin_bare.Goals as goal

pub returns-then-number-eq0 : goal.returns-then-number-eq0
returns-then-number-eq0 c = bare_zero c.args.self.now c.args.lane.now c.args.boot c.args.number c.if-number-eq0.true

pub returns-in-Full : goal.returns-in-Full
returns-in-Full c =
    let is = c.room_in.ensures ∙ ap (λ (b : CallBookState). room_of (without_lane c.args.lane.now b.entries)) c.self.view_is in
    bare_full c.args.self.now c.args.lane.now c.args.boot c.args.number c.if-number-eq0.false c.room_in.result is c.in-Full.is

pub returns-in_default-leaf : goal.returns-in_default-leaf
returns-in_default-leaf c =
    let is = c.room_in.ensures ∙ ap (λ (b : CallBookState). room_of (without_lane c.args.lane.now b.entries)) c.self.view_is in
    bare_wants c.args.self.now c.args.lane.now c.args.boot c.args.number c.if-number-eq0.false c.room_in.result is c.in_default.not-Full

pub add-requires : goal.add-requires
add-requires c = entry_at-without_lane c.args.lane.now c.args.number c.self.inside.calls

pub returns-in-Err : goal.returns-in-Err
returns-in-Err c =
    let is = c.room_in.ensures ∙ ap (λ (b : CallBookState). room_of (without_lane c.args.lane.now b.entries)) c.self.view_is in
    let wants = bare_wants c.args.self.now c.args.lane.now c.args.boot c.args.number c.if-number-eq0.false c.room_in.result is c.in_default.not-Full in
    (wants.0, ap (λ (es : List CallEntry). book_of c.self.inside.lanes es) c.in-Err.ensures.err ∙ c.self.view_is)

pub returns-in-Ok-Free : goal.returns-in-Ok-Free
returns-in-Ok-Free c =
    let room : c.in-Ok-Free.field-0 ≡ rooms.Free = cc in
    let there : rooms.Free ≡ room_of (without_lane c.args.lane.now c.self.inside.calls) = cc (c.in-Ok-Free.ensures.room, room) in
    let lane = c.in-Ok.ensures ∙ ap (λ (n : LaneName). bare_lane n c.args.boot) c.copy.ensures in
    let lanes = c.put.ensures ∙ ap (λ (l : CallLane). put_lane l c.self.inside.lanes) lane ∙ ap (λ (b : CallBookState). put_lane (bare_lane c.args.lane.now c.args.boot) b.lanes) c.self.view_is in
    let entries =
    c.in-Ok-Free.ensures.ok
    ∙ ap (λ (r : Room). added r c.args.lane.now c.args.number (without_lane c.args.lane.now c.self.inside.calls) c.self.inside.calls) room
    ∙ ap (λ (b : CallBookState). added rooms.Free c.args.lane.now c.args.number (without_lane c.args.lane.now b.entries) b.entries) c.self.view_is
    in
    bare_new c.args.self.now c.args.lane.now c.args.boot c.args.number c.if-number-eq0.false rooms.Free
    (there ∙ ap (λ (b : CallBookState). room_of (without_lane c.args.lane.now b.entries)) c.self.view_is) (λ e. cc)
    c.put.new.self c.add.new.self lanes entries

pub returns-in-Ok-Dropping : goal.returns-in-Ok-Dropping
returns-in-Ok-Dropping c =
    let its : Room = rooms.Dropping c.in-Ok-Dropping.dropped c.in-Ok-Dropping.its in
    let room : c.in-Ok-Dropping.field-0 ≡ its = cc in
    let there : its ≡ room_of (without_lane c.args.lane.now c.self.inside.calls) = cc (c.in-Ok-Dropping.ensures.room, room) in
    let lane = c.in-Ok.ensures ∙ ap (λ (n : LaneName). bare_lane n c.args.boot) c.copy.ensures in
    let put = c.put-in-Ok-Dropping.ensures ∙ ap (λ (l : CallLane). put_lane l c.self.inside.lanes) lane ∙ ap (λ (b : CallBookState). put_lane (bare_lane c.args.lane.now c.args.boot) b.lanes) c.self.view_is in
    let lanes = c.raise.ensures ∙ ap (λ (ls : List CallLane). raise_lane c.in-Ok-Dropping.dropped c.in-Ok-Dropping.its ls) put in
    let entries =
    c.in-Ok-Dropping.ensures.ok
    ∙ ap (λ (r : Room). added r c.args.lane.now c.args.number (without_lane c.args.lane.now c.self.inside.calls) c.self.inside.calls) room
    ∙ ap (λ (b : CallBookState). added its c.args.lane.now c.args.number (without_lane c.args.lane.now b.entries) b.entries) c.self.view_is
    in
    bare_new c.args.self.now c.args.lane.now c.args.boot c.args.number c.if-number-eq0.false its
    (there ∙ ap (λ (b : CallBookState). room_of (without_lane c.args.lane.now b.entries)) c.self.view_is) (λ e. cc)
    c.raise.new.self c.add.new.self lanes entries
