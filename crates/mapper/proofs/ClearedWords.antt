-- "Netlists, refusals and the zeroed store are the former ones": how the cuts are stored is seen by no caller.
--     memory-alone                what a call promises of memory leaves nothing open
--     store_unseen                the call on the words of the former store: the same answer and text, and of the words the former store of what is left
use Rattle.base.specs.{◌≡◌, refl, sym, ap, ◌∙◌, subst, Bool, true, false, cond, List, ℕ, length, replicate}
use Rattle.model.specs.{Outcome, refused, mapped, Call, call_of, map_texts, work_after, tried_early, Memory, Answer}
use Rattle.base_words.specs.{zeros}
use Rattle.base_words.proofs.{former, former-length, former-zeros}

-- answer, words and bytes of a call are given by its texts and by what was lent
pub memory-alone : (c : Call) (work text : List ℕ) (a b : Answer) (w v t u : List ℕ) → Memory c work text a w t → Memory c work text b v u
    → (a ≡ b) × (w ≡ v) × (t ≡ u)
memory-alone c work text a b w v t u p q = (p.answers ∙ sym q.answers, p.words ∙ sym q.words, p.bytes ∙ sym q.bytes)

-- the zeroed store is the former one, and one that is left as it was is too
after-former : (m : ℕ) (o : Outcome) (work : List ℕ) → work_after o (former m work) ≡ former m (work_after o work)
unfolding work_after
after-former m (refused n k) work = by (tried_early n)
  where
    cleared : replicate (length (former m work)) 0 ≡ former m (replicate (length work) 0)
    cleared = ap (λ (n : ℕ). zeros n) (former-length m work) ∙ sym (former-zeros m (length work))

    by : (t : Bool) → cond t (former m work) (replicate (length (former m work)) 0) ≡ former m (cond t work (replicate (length work) 0))
    by true = refl
    by false = cleared
after-former m (mapped t f) work = ap (λ (n : ℕ). zeros n) (former-length m work) ∙ sym (former-zeros m (length work))

-- two calls with the same texts, on words and on their former store
module _ (paired : Bool) (cells graph arrivals work text : List ℕ) (m : ℕ) (a b : Answer) (w v t u : List ℕ) where
  pub store_unseen : Memory (call_of paired cells graph arrivals work text) work text a w t → Memory (call_of paired cells graph arrivals (former m work) text) (former m work) text b v u
      → (a ≡ b) × (v ≡ former m w) × (t ≡ u)
  store_unseen p q =
      let c : Call = call_of paired cells graph arrivals work text in
      let same : call_of paired cells graph arrivals (former m work) text ≡ c = ap (λ (n : ℕ). record { paired = paired; library = cells; graph = graph; arrivals = arrivals; words = n; bytes = length text }) (former-length m work) in
      let r : Memory c (former m work) text b v u = subst (λ (d : Call). Memory d (former m work) text b v u) same q in
      (p.answers ∙ sym r.answers, r.words ∙ after-former m (map_texts c) work ∙ ap (former m) (sym p.words), p.bytes ∙ sym r.bytes)
