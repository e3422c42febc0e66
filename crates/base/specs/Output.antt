-- How output is handed back in a lent buffer. Document 01, question 13.
use Rattle.std.specs.Prelude.{ℕ, List, ◌++◌, leb, length, drop}
use Rattle.base.specs.Question.{ask}

-- Output fills the front of the lent buffer, and the bytes after it are unchanged; a buffer that it does not fit into stays as it was.
unfoldable pub front_filled : List ℕ → List ℕ → List ℕ
front_filled output buffer = ask (leb (length output) (length buffer)) buffer (output ++ drop (length output) buffer)
