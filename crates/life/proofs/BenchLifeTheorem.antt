-- The bench is a life, of any kind that keeps its laws.
use Prim.Native.Nat.{ℕ, min}
use mathlib.Core.Path.{◌≡◌, refl, sym, ap, ◌∙◌}
use mathlib.Core.Bool.{false}
use Rattle.std.specs.Prelude.{Some, Result, Ok, Err}
use mathlib.Core.List.{List, ◌∷◌, append-nil}
use lib.ListN.{length, drop, take, length-take}
use Rattle.base.specs.Question.{ask}
use Rattle.base.specs.Refusal.{refused}
use Rattle.base.proofs.Laws.{asked}
use Rattle.kind.specs.Kind.{Kind}
use Rattle.chip.specs.Chip.{Lawful}
use Rattle.orders.specs.Orders.{orders}
use Rattle.orders.proofs.Laws.{orders_length}
use Rattle.updater.specs.State.{first}
use Rattle.starts.specs.Starts.{start_answer}
use Rattle.effects.specs.Progress.{chip_after, state_after, state_at}
use Rattle.bench.specs.Bench.{cut_allowed, bench_answer, bench_output}
use Rattle.life.specs.Life.{fresh, Event, starts, life, obeying}
use Rattle.life.specs.BenchLife.{BenchLife, BenchLives}
use Rattle.life.specs.Types.{BadDamage, Refusal, State}
use Rattle.starts.proofs.Laws.{opened}
use Rattle.bench.proofs.Laws.{on_start, by_start}
use Rattle.life.proofs.UncutLaws.{run_state, run_ended_law, cut_run}

pub bench_lives : (kind : Kind) → Lawful kind → BenchLives kind
unfolding bench_answer bench_output on_start
bench_lives kind lawful layout chip image k damage state e long bytes small = go (start_answer kind layout image) refl
  where
    -- question 10 and the answer, once the start is accepted
    asks : Result State Refusal
    asks = ask (cut_allowed (drop k (orders kind layout image)) (chip_after kind layout image k chip) damage) (refused BadDamage 0) (Ok (state_at layout image k))

    no_state : (r : Refusal) → ◌≡◌ {A = Result State Refusal} (Err r) (Ok state) → ⊥
    no_state r q = cc

    state_same : {a b : State} → ◌≡◌ {A = Result State Refusal} (Ok a) (Ok b) → a ≡ b
    state_same q = cc

    -- as many orders as there are
    count_taken : state_after (length (take k (orders kind layout image))) (first layout (length image)) ≡ state_at layout image k
    count_taken = ap (λ (i : ℕ). state_after i (first layout (length image))) (length-take k (orders kind layout image) ∙ ap (min k) (orders_length kind layout image))

    go : (s : Result State Refusal) → start_answer kind layout image ≡ s →
        BenchLife kind layout chip image k damage state
    go (Ok begun) q =
        let o = opened kind lawful layout image begun q in
        let r : asks ≡ Ok state = sym (ap (on_start refused asks) q) ∙ by_start kind refused asks layout image ∙ e in
        let a = asked _ _ _ _ r (no_state _) in
        let l = cut_run kind lawful layout.update_place layout image o.numbers o.alone bytes damage small (fresh chip) k long refl a.0 in
        let t = run_state kind lawful layout.update_place layout image o.numbers o.alone bytes k (fresh chip) long refl in
        let is : state_after (length (take k (orders kind layout image))) (first layout (length image)) ≡ state = count_taken ∙ state_same a.1 in
        record {
          valid = l.valid;
          leaves = l.reached;
          before =
              ap (λ (e : List Event). (life kind (fresh chip) (starts layout image ∷ e)).run) (sym (append-nil (obeying image (take k (orders kind layout image)) chip)))
              ∙ t.reached
              ∙ ap (λ (s : State). Some (record { state = s; image = image; carried = false })) is;
          ends = λ h. sym is ∙ run_ended_law kind lawful layout.update_place layout image o.numbers o.alone bytes k h (fresh chip) long refl;
        }
    go (Err r) q = absurd (no_state r (sym (ap (on_start refused asks) q) ∙ by_start kind refused asks layout image ∙ e))
