-- What the cut layer leaves where no variable has too many cuts, in terms of `model`.
use Rattle.std.specs.Prelude.{◌≡◌, ◌≤◌, ◌<◌}
use Rattle.base.specs.{List, ℕ, length, get_or}
use Rattle.model.specs.Graph.{Graph}
use Rattle.model.specs.{cuts_of, cut_at, cut_table}
use Rattle.base_words.specs.{counts_from, counts_to, lists_from, output_addr, cuts_at, function_of, Sound}

-- the words `out` are those of w with the cuts of g and their functions. All other words stay: kind to place, needed, free, both phases, and from the outputs on
pub record Listed (w : List ℕ) (m : ℕ) (g : Graph) (out : List ℕ) : Type 0 where
  pub cuts : (v : ℕ) → v ≤ m → cuts_at out m v ≡ cuts_of g v
  pub functions : (v k : ℕ) → v ≤ m → k < length (cuts_of g v) → function_of out m v k ≡ cut_table g (cut_at (cuts_of g) v k) v
  pub sound : (v : ℕ) → v ≤ m → Sound out m v
  pub long : length out ≡ length w
  pub below : (i : ℕ) → i < counts_from m → get_or out i 0 ≡ get_or w i 0
  pub middle : (i : ℕ) → counts_to m ≤ i → i < lists_from m → get_or out i 0 ≡ get_or w i 0
  pub above : (i : ℕ) → output_addr m 0 ≤ i → get_or out i 0 ≡ get_or w i 0
