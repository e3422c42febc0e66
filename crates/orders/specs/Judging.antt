-- How a reply to an order is judged. Only contracts of functions that are no public calls cite it.
use Rattle.std.specs.Prelude.{ℕ, List, Option, Some, None, length}
use Rattle.base.specs.Question.{ask}
use Rattle.comparison.specs.Comparison.{differs}
use Rattle.orders.specs.Types.{Judgement, NotAsked, Agrees, JudgedDiffers}
use Rattle.orders.specs.Orders.{Order, erase, program, look}
use Rattle.orders.specs.Replies.{done, read, asks_for}

-- the reply to an erase or program
unfoldable pub judged_done : ℕ → ℕ → Judgement
judged_done reply_kind lent = ask (asks_for done 0 reply_kind lent) NotAsked Agrees

-- the first address at which a look read another byte than expected, if any
unfoldable pub judged_look : Option ℕ → Judgement
judged_look None = Agrees
judged_look (Some address) = JudgedDiffers address

-- questions 8 and 9 by the order
unfoldable pub judged : Order → ℕ → List ℕ → Judgement
judged (erase place count) reply_kind bytes = judged_done reply_kind (length bytes)
judged (program place contents) reply_kind bytes = judged_done reply_kind (length bytes)
judged (look place expected) reply_kind bytes = ask (asks_for read (length expected) reply_kind (length bytes)) NotAsked (judged_look (differs place bytes expected))
