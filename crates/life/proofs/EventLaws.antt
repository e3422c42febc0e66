-- What a cut, a refusal and an accepted start leave as it was.
use mathlib.Core.Path.{refl}
use Rattle.kind.specs.Kind.{Kind}
use Rattle.life.specs.Life.{after_start, after_reply, on_run, next}
use Rattle.life.specs.Events.{EventsKeep}

pub events_keep : (kind : Kind) → EventsKeep kind
unfolding next after_start after_reply on_run
events_keep kind = record {
  cut_keeps = λ w. (refl, refl, refl, refl, refl);
  start_opens = λ w layout image state e. rw e refl;
  start_refused = λ w layout image r e. rw e refl;
  reply_refused = λ w run image reply_kind bytes r is_open e. rw (is_open, e) refl;
}
