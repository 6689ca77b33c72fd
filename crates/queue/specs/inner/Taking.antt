-- Removal as a function of the store, for any words: the header's test, then the inner call's model.
use Rattle.std.specs.Prelude.{ℕ, List, Result, Err}
use Rattle.handle.specs.declared.Handle.{Handle}
use Rattle.handle.specs.declared.Refusal.TheVariants as R
use Rattle.arena.specs.Header.{header_of}
use Rattle.remove.specs.inner.Remove.{remove_by}
use Rattle.queue.specs.inner.Header.{on_header}
use Rattle.handle.specs.declared.Removed.{Removed}
use Rattle.handle.specs.declared.Refusal.{Refusal}

unfoldable pub remove_call : List ℕ → Handle → List ℕ × Result Removed Refusal
remove_call s h = on_header (header_of s) (λ cap. remove_by s cap h) (s, Err R.NotSound)
