-- The 24 orders: the words of four places, in lexicographic order, without those that have a place twice.
--     orders_are                  they are the kept words, one after the other
--     order_iff                   a list is one of them exactly where it is four different places
--     orders_ascend               each is smaller than those behind it, compared left to right
use Rattle.base.specs.{ℕ, zero, suc, ◌<◌, ◌≡◌, refl, sym, ◌∙◌, ap, subst, subst₂, ◌↔◌, ⊎_elim, not, List, [], ◌∷◌, map, Memᴰ, Memᴰ-head}
use Rattle.base.specs.{Memᴰ-tail, Memᴰ-not-nil, Memᴰ-cases_cons, T, not_T, length, yes_and}
use Rattle.model.specs.{keep, each, below, elem, orders, Distinct, Ascending}
use Rattle.promises.specs.Covers.{IsOrder, Smaller, here, alike}
use Rattle.theory_graph.specs.{distinct}
use Rattle.theory_graph.proofs.{map_in, map_out, each_in, each_out, keep_in, keep_out, below_in, below_out, elem_out, is_true}
use Rattle.theory_order.proofs.{distinct-yes}
use Rattle.theory_cover.proofs.PairCovers.{Pairwise, pairwise_each, pairwise_map, pairwise_keep, below-ascends}

-- the words of so many places, in lexicographic order
pub words : ℕ → List (List ℕ)
words zero = [] ∷ []
words (suc n) = each (λ (p : ℕ). map (λ (w : List ℕ). p ∷ w) (words n)) (below 4)

-- "The 24 orders of places 0 to 3 stand in lexicographic order, numbered from 0."
pub orders_are : orders ≡ keep distinct (words 4)
unfolding orders keep distinct words each below
orders_are = refl

pub orders-count : length orders ≡ 24
unfolding orders
orders-count = refl

-- ---- complete

word_in : (places : List ℕ) → ((p : ℕ) → Memᴰ p places → p < 4) → Memᴰ places (words (length places))
unfolding words
word_in [] h = Memᴰ-head refl
word_in (p ∷ ps) h = each_in (λ (q : ℕ). map (λ (w : List ℕ). q ∷ w) (words (length ps))) (below_in 4 p (h p (Memᴰ-head refl)))
    (map_in (λ (w : List ℕ). p ∷ w) (word_in ps (λ q m. h q (Memᴰ-tail m))))

word_out : (n : ℕ) (places : List ℕ) → Memᴰ places (words n) → (length places ≡ n) × ((p : ℕ) → Memᴰ p places → p < 4)
unfolding words
word_out zero places (Memᴰ-head e) = (ap length e, (λ p m. absurd (Memᴰ-not-nil (rw e at m))))
word_out zero places (Memᴰ-tail m) = absurd (Memᴰ-not-nil m)
word_out (suc n) places m =
    let o = each_out (λ (q : ℕ). map (λ (w : List ℕ). q ∷ w) (words n)) (below 4) m in
    let w = map_out (λ (w : List ℕ). o.0 ∷ w) (words n) o.2 in
    let r = word_out n w.0 w.1 in
    (ap length w.2 ∙ ap suc r.0, (λ p k. ⊎_elim (λ e. rw e (below_out 4 o.0 o.1)) (r.1 p) (Memᴰ-cases_cons (rw w.2 at k))))

yes-distinct : (xs : List ℕ) → Distinct xs → T (distinct xs)
unfolding distinct
yes-distinct [] h = tt
yes-distinct (x ∷ xs) h = yes_and (not (elem x xs)) (distinct xs) (not_T (elem x xs) (λ t. h.0 (elem_out x xs (is_true (elem x xs) t)))) (yes-distinct xs h.1)

-- an order is four different places, and each four are one
pub order_iff : (places : List ℕ) → Memᴰ places orders ↔ IsOrder places
order_iff places = (
  (λ m.
      let k = keep_out distinct (words 4) (subst (λ (ws : List (List ℕ)). Memᴰ places ws) orders_are m) in
      let w = word_out 4 places k.0 in
      record { four = w.0; apart = distinct-yes places k.1; small = w.1 }),
  (λ o. subst (λ (ws : List (List ℕ)). Memᴰ places ws) (sym orders_are)
      (keep_in distinct (subst (λ (n : ℕ). Memᴰ places (words n)) o.four (word_in places o.small)) (yes-distinct places o.apart))),
)

-- ---- lexicographic

ascends : {A : Type 0} (less : A → A → Type 0) (xs : List A) → Pairwise less xs → Ascending less xs
ascends less [] h = tt
ascends less (x ∷ xs) h = (h.0, ascends less xs h.1)

words-rise : (n : ℕ) → Pairwise Smaller (words n)
unfolding words
words-rise zero = ((λ y m. absurd (Memᴰ-not-nil m)), tt)
words-rise (suc n) = pairwise_each Smaller (λ (a b : ℕ). a < b) (λ (p : ℕ). map (λ (w : List ℕ). p ∷ w) (words n))
    (λ x y h a b m k. let u = map_out (λ (w : List ℕ). x ∷ w) (words n) m in let v = map_out (λ (w : List ℕ). y ∷ w) (words n) k in
    subst₂ Smaller (sym u.2) (sym v.2) (here h))
    (λ p. pairwise_map Smaller Smaller (λ (w : List ℕ). p ∷ w) (λ x y h. alike h) (words n) (words-rise n)) (below 4) (below-ascends 4)

-- "The 24 orders .. stand in lexicographic order"
pub orders_ascend : Ascending Smaller orders
orders_ascend = ascends Smaller orders (subst (Pairwise Smaller) (sym orders_are) (pairwise_keep Smaller distinct (words 4) (words-rise 4)))
