-- What the loop of `store_keys` goes by, and that the words of a cut's key are the cut's words.
--     keys_more                   one key more
--     key-words-cut               the words of a cut's key are the cut's
--     put_keys_list               keys of good cuts, stored, are the cuts stored
use Rattle.base.specs.{◌≡◌, refl, sym, ap, ◌∙◌, List, [], ◌∷◌, ◌++◌, map, map-append, ℕ, ◌+◌, ◌*◌, ◌/◌, ◌%◌, ◌≤◌, ◌<◌, add-one, arith}
use Rattle.base.specs.{length, take, get_or, length-map, take-suc, length-take-le}
use Rattle.base_words.specs.{put_at, count_addr, cut_words, put_cut, put_cuts, put_list, Good, AllGood}
use Rattle.base_words.proofs.{cuts-more}
use Rattle.cut_lists.specs.{key_from, key, key_words, put_keys}

-- a step: key i stored behind the keys before it
pub keys_more : (w : List ℕ) (m v i : ℕ) (keys : List ℕ) → i < length keys
    → put_cut (put_cuts w m v 0 (map key_words (take i keys))) m v i (key_words (get_or keys i 0)) ≡ put_cuts w m v 0 (map key_words (take (i + 1) keys))
keys_more w m v i keys h =
    let first : List (List ℕ) = map key_words (take i keys) in
    let ws : List ℕ = key_words (get_or keys i 0) in
    let n : length first ≡ i = simp length-map (length-take-le i keys (omega arith)) in
    let e : i ≡ 0 + length first = omega arith in
    let more : take (i + 1) keys ≡ take i keys ++ (get_or keys i 0 ∷ []) = rw add-one (take-suc keys i 0 h) in
    ap (λ (j : ℕ). put_cut (put_cuts w m v 0 first) m v j ws) e
    ∙ cuts-more w m v 0 first ws
    ∙ ap (put_cuts w m v 0) (sym (map-append key_words (take i keys) (get_or keys i 0 ∷ [])) ∙ ap (map key_words) (sym more))

-- a number in base 4096 comes apart again
apart : (q r : ℕ) → r < 4096 → ((q * 4096 + r) / 4096 ≡ q) × ((q * 4096 + r) % 4096 ≡ r)
apart q r h = (omega arith, omega arith)

five : (n a b c d : ℕ) → a < 4096 → b < 4096 → c < 4096 → d < 4096
    → key_words ((((n * 4096 + a) * 4096 + b) * 4096 + c) * 4096 + d) ≡ n ∷ a ∷ b ∷ c ∷ d ∷ []
unfolding key_words
five n a b c d ha hb hc hd =
    let p₁ = apart (((n * 4096 + a) * 4096 + b) * 4096 + c) d hd in
    let p₂ = apart ((n * 4096 + a) * 4096 + b) c hc in
    let p₃ = apart (n * 4096 + a) b hb in
    let p₄ = apart n a ha in
    rw (p₁.0, p₁.1, p₂.0, p₂.1, p₃.0, p₃.1, p₄.0, p₄.1)

pub key-words-cut : (c : List ℕ) → Good c → key_words (key c) ≡ cut_words c
unfolding key key_from cut_words key_words
key-words-cut [] g = refl
key-words-cut (a ∷ []) g = five 1 a 0 0 0 g.1.1 (omega arith) (omega arith) (omega arith)
key-words-cut (a ∷ b ∷ []) g = five 2 a b 0 0 g.1.1 g.1.2.1 (omega arith) (omega arith)
key-words-cut (a ∷ b ∷ c ∷ []) g = five 3 a b c 0 g.1.1 g.1.2.1 g.1.2.2.1 (omega arith)
key-words-cut (a ∷ b ∷ c ∷ d ∷ []) g = five 4 a b c d g.1.1 g.1.2.1 g.1.2.2.1 g.1.2.2.2.1
key-words-cut (a ∷ b ∷ c ∷ d ∷ e ∷ ls) g = absurd (omega (arith, g.0))

words_keys_cuts : (cs : List (List ℕ)) → AllGood cs → map key_words (map key cs) ≡ map cut_words cs
words_keys_cuts [] g = refl
words_keys_cuts (c ∷ cs) g = λ i. key-words-cut c g.0 i ∷ words_keys_cuts cs g.1 i

pub put_keys_list : (w : List ℕ) (m v : ℕ) (ks : List ℕ) (cs : List (List ℕ)) → ks ≡ map key cs → AllGood cs → put_keys w m v ks ≡ put_list w m v cs
unfolding put_keys put_list
put_keys_list w m v ks cs e g =
    let n : length ks ≡ length cs = ap length e ∙ simp length-map in
    let f : map key_words ks ≡ map cut_words cs = ap (map key_words) e ∙ words_keys_cuts cs g in
    λ i. put_cuts (put_at w (count_addr m v) (n i ∷ [])) m v 0 (f i)

-- a good cut's key has its size in front
pub key-size : (c : List ℕ) → Good c → key c / 4096 / 4096 / 4096 / 4096 ≤ 4
unfolding key_words cut_words
key-size c g =
    let e : key c / 4096 / 4096 / 4096 / 4096 ≡ length c = ap (λ (l : List ℕ). get_or l 0 0) (key-words-cut c g) in
    omega (arith, g.0)
