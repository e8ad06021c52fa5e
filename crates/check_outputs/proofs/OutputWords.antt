-- The words in which the outputs differ:
--     outputs-ready       what the pass over the outputs asks for
--     output-word         where an output differs, from the words of its literal's variable and of its driver
use Rattle.base.specs.{ℕ, ◌+◌, ◌-◌, ◌*◌, ◌/◌, ◌≤◌, ◌<◌, arith, ◌≡◌, sym, ap, ap₂, ◌∙◌, Bool, not, beq, List, [], ◌∷◌, Memᴰ}
use Rattle.base.specs.{Memᴰ-append_left, length, get_or}
use Rattle.model.specs.{bit, flip, each, And, topological_order, var_of, negated, literal_value, out_name, Driver}
use Rattle.model.specs.Graph.{Graph}
use Rattle.model.specs.declared.Header.{Header}
use Rattle.theory_graph.proofs.{get_or_in, order_small, defined-ordered}
use Rattle.base_words.specs.{ordered_count, output_at, slot_at}
use Rattle.check_nets.specs.{no_driver}
use Rattle.check_outputs.specs.{literal_word, differences, net_at, wanted_at, wrong_word}
use Rattle.check_outputs.proofs.AssignmentBits.{bit_word, words_same}
use Rattle.check_outputs.specs.Comparable.{Comparable}
use Rattle.check_outputs.proofs.VariableWords.{slot_of, value_word, value-bit}
use Rattle.check_outputs.proofs.NetWords.{net_word, net-bit}

module _ (w : List ℕ) (h : Header) (nets : List ℕ) (n : ℕ) (refs order : List ℕ) (g : Graph) (ds : List Driver) (c : Comparable w h nets n refs order g ds) where
  output-at : (k : ℕ) → k < length g.outputs → output_at w h.size k ≡ get_or g.outputs k 0
  output-at k l = c.graph_loaded.represented.outs k l

  -- an output's variable is ordered
  output-ordered : (k : ℕ) → k < length g.outputs → Memᴰ (get_or g.outputs k 0 / 2) (topological_order g)
  unfolding var_of
  output-ordered k l =
      defined-ordered g c.accepted (get_or g.outputs k 0 / 2)
      (c.accepted.used (get_or g.outputs k 0) (Memᴰ-append_left (each (λ (a : And). a.left ∷ a.right ∷ []) g.ands) (get_or_in g.outputs k 0 l)))

  pub output-small : (k : ℕ) → k < h.outputs → output_at w h.size k ≤ 2 * h.size + 1
  output-small k l =
      let s : k < length g.outputs = omega (arith, c.graph_loaded.outs) in
      omega (arith, output-at k s, order_small g c.accepted (get_or g.outputs k 0 / 2) (output-ordered k s), c.graph_loaded.size)

  module _ (b : ℕ) (variables drivers : List ℕ)
      (known : (i : ℕ) → i < ordered_count h → get_or variables (slot_at w h.size i) 0 ≡ value_word w h nets n refs order g ds c b (slot_at w h.size i))
      (driven : (p : ℕ) → p < n → get_or drivers (get_or order p 0) 0 ≡ net_word w h nets n refs order g ds c b (get_or order p 0))
      (k : ℕ) (l : k < length g.outputs) where
    variable : get_or variables (output_at w h.size k / 2) 0 ≡ value_word w h nets n refs order g ds c b (get_or g.outputs k 0 / 2)
    variable =
        let s = slot_of w h nets n refs order g ds c (get_or g.outputs k 0 / 2) (output-ordered k l) in
        ap (λ (v : ℕ). get_or variables v 0) (ap (λ (x : ℕ). x / 2) (output-at k l) ∙ sym s.2) ∙ known s.0 s.1 ∙ ap (value_word w h nets n refs order g ds c b) s.2

    driver : get_or drivers (n - h.outputs + k) 0 ≡ net_word w h nets n refs order g ds c b (n - h.outputs + k)
    driver =
        let p = c.in_order.all (n - h.outputs + k) (omega (arith, c.capacity, c.graph_loaded.outs, c.counted)) in
        ap (λ (i : ℕ). get_or drivers i 0) (sym p.2) ∙ driven p.0 (omega (arith, p.1, c.counted)) ∙ ap (net_word w h nets n refs order g ds c b) p.2

    own-net : (get_or ds (n - h.outputs + k) no_driver).net ≡ out_name k
    own-net = ap (λ (o : ℕ). (get_or ds (n - o + k) no_driver).net) (sym c.graph_loaded.outs) ∙ c.outs k l

    pub output-word : differences (literal_word (output_at w h.size k) (get_or variables (output_at w h.size k / 2) 0)) (get_or drivers (n - h.outputs + k) 0) ≡ wrong_word g ds b k
    unfolding differences literal_word wrong_word wanted_at literal_value var_of
    output-word =
        (λ i. differences (literal_word (output-at k l i) (variable i)) (driver i))
        ∙ words_same
        (λ t. not (beq (bit (literal_word out (value_word w h nets n refs order g ds c b (out / 2))) t) (bit (net_word w h nets n refs order g ds c b (n - h.outputs + k)) t)))
        (λ t. not (beq (wanted_at g (64 * b + t) k) (net_at g ds (64 * b + t) (out_name k))))
        (λ t s. ap₂ (λ (x y : Bool). not (beq x y)) (wanted t s) (net-bit w h nets n refs order g ds c b (n - h.outputs + k) t s ∙ ap (net_at g ds (64 * b + t)) own-net))
      where
        out : ℕ
        out = get_or g.outputs k 0

        wanted : (t : ℕ) → t < 64 → bit (literal_word out (value_word w h nets n refs order g ds c b (out / 2))) t ≡ wanted_at g (64 * b + t) k
        wanted t s =
            bit_word (λ t. flip (negated out) (bit (value_word w h nets n refs order g ds c b (out / 2)) t)) t s
            ∙ ap (flip (negated out)) (value-bit w h nets n refs order g ds c b (out / 2) t s)
