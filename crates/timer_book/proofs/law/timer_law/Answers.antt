use Rattle.std.proofs.Common.{not}
use Rattle.timer_book.specs.declared.entry.TimerEntry.{TimerEntry}
use Rattle.timer_book.specs.Entries.{timer_place, entry_place, place_cmp, at_place, is_of}
use Rattle.timer_book.proofs.Places.{total}
use Rattle.lists_and_limits.proofs.Maps.{put-there, put-others, without-gone, without-others, filter-gone, filter-others}
use Rattle.timer_book.proofs.Actors.{at_of, at_other}
use Rattle.timer_book.proofs.Same.{place-of, place-same, entry_at-is}
use Rattle.timer_book.proofs.Firsts.{due-first, none_waits}
use Rattle.timer_book.proofs.law.timer_law.Goals as goal

pub returns : goal.returns
returns c = record {
  order = c.in_order.ensures;
  places = λ key other name another. (place-of key other name another, place-same key other name another);
  found = entry_at-is;
  put = put-there entry_place place_cmp total;
  put_others = put-others entry_place place_cmp total;
  removed = without-gone entry_place place_cmp total;
  removed_others = without-others entry_place place_cmp total;
  dropped = λ key name xs. filter-gone (at_place (timer_place key name)) (λ (e : TimerEntry). not (is_of key e)) xs (λ x. at_of key name x);
  dropped_others = λ key other name xs apart. filter-others (at_place (timer_place key name)) (λ (e : TimerEntry). not (is_of other e)) xs (λ x. at_other key name x other apart);
  due = due-first;
  none_due = none_waits;
}
