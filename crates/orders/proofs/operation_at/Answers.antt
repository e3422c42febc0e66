-- `operation_at` meets its contract.
use mathlib.Core.Path.{◌≡◌, refl}
use native.Mathlib.Omega.{arith}
use Rattle.orders.specs.Table.{by_phase}
use Rattle.orders.specs.Orders.{order_of, operation_of}
use Rattle.orders.proofs.TableLaws.{image_pages, last_phase}
use Rattle.orders.proofs.operation_at.Goals as goal

pub overflow_sub-image_length : goal.overflow_sub-image_length
overflow_sub-image_length c =
    let args = c.args in
    let h = image_pages args.layout args.image_length args.index (rw c.in-3.is at c.requires.0) in
    omega arith

pub returns-in_default : goal.returns-in_default
unfolding order_of by_phase operation_of
returns-in_default c = λ image n.
    let args = c.args in
    let last : args.phase ≡ 6 = last_phase args.layout args.image_length args.phase args.index c.requires.0 (omega arith) (omega arith) (omega arith) (omega arith) (omega arith) (omega arith) in
    rw last refl
