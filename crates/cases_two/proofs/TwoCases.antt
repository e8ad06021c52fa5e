-- Two channels in one call, from the texts on, checked against the definitions by computing.
use Prim.Native.String.{String}
use Rattle.base.specs.{ℕ, Bool, false, ◌&&◌, List, [], ◌∷◌, ◌++◌, T, length, replicate}
use Rattle.model.specs.{all, same, text, fault, holds as reads, Outcome, returned, Channel, TwoCall, map_two, answers_of, two_work_after}
use Rattle.cases.proofs.{library, with, listing, graph_b, graph_c, head_b, arrives, is_print, is_given, is_refusal, is_returned}

-- what a channel's outcome is
pub data Expected : Type 0 where
  -- so many gates and this arrival
  gives : ℕ → ℕ → Expected
  -- this refusal at this place
  refuses : ℕ → ℕ → Expected

unfoldable pub is_expected : Expected → Outcome → Bool
unfolding is_given is_refusal
is_expected (gives count arrival) = is_given count arrival
is_expected (refuses n k) = is_refusal n k

-- a library, so many words, the channels, and what each comes to
pub record TwoCase : Type 0 where
  pub call : TwoCall
  pub first : Expected
  pub second : Expected

unfoldable pub two_holds : TwoCase → Bool
unfolding is_expected map_two
two_holds x = is_expected x.first (map_two x.call).first && is_expected x.second (map_two x.call).second

-- a channel without late inputs, with these bytes lent
unfoldable pub on : String → ℕ → Channel
unfolding text
on g bytes = record { graph = text g; arrivals = []; bytes = bytes }

-- a channel with an arrivals' text
unfoldable pub timed_on : String → List ℕ → Channel
unfolding text
timed_on g arrivals = record { graph = text g; arrivals = arrivals; bytes = 65536 }

-- a channel whose graph's text is given as bytes
unfoldable pub on_bytes : List ℕ → Channel
on_bytes g = record { graph = g; arrivals = []; bytes = 65536 }

unfoldable pub case : List ℕ → ℕ → Channel → Channel → Expected → Expected → TwoCase
case l words a b x y = record { call = record { paired = false; library = l; words = words; first = a; second = b }; first = x; second = y }

-- B and C need 497 words each, and the graph of I 125
pub two_cases_hold : T (all two_holds (
    -- both mapped, with words for both and no more; one word less is 10 for both, also where one need alone is met
    case (with "nor2 2 0001 2 35 35 0 0\n") 994 (on graph_b 65536) (on graph_c 65536) (gives 2 30) (gives 1 35)
    ∷ case (with "nor2 2 0001 2 35 35 0 0\n") 993 (on graph_b 65536) (on graph_c 65536) (refuses 10 0) (refuses 10 0)
    ∷ case library 497 (on graph_b 65536) (on graph_b 65536) (refuses 10 0) (refuses 10 0)
    ∷ case library 621 (on graph_b 65536) (on "aag 0 0 0 0 0\n" 65536) (gives 2 30) (gives 0 0)
    ∷ case library 620 (on graph_b 65536) (on "aag 0 0 0 0 0\n" 65536) (refuses 10 0) (refuses 10 0)
    ∷ case library 620 (on "aag 0 0 0 0 0\n" 65536) (on graph_b 65536) (refuses 10 0) (refuses 10 0)
    -- a header's refusal of one is both's, and 10 is then not tried
    ∷ case library 32768 (on graph_b 65536) (on "" 65536) (refuses 7 0) (refuses 7 0)
    ∷ case library 32768 (on "" 65536) (on graph_b 65536) (refuses 7 0) (refuses 7 0)
    ∷ case library 0 (on graph_b 65536) (on "aag 1 0 1 0 0\n" 65536) (refuses 8 0) (refuses 8 0)
    ∷ case library 0 (on graph_b 65536) (on "aag 4096 0 0 0 0\n" 65536) (refuses 9 0) (refuses 9 0)
    ∷ case library 0 (on graph_b 65536) (on "aig 4 2 0 1 1\n" 65536) (refuses 19 0) (refuses 19 0)
    -- "the first channel's, if both have one"
    ∷ case library 32768 (on "aag 1 0 1 0 0\n" 65536) (on "" 65536) (refuses 8 0) (refuses 8 0)
    ∷ case library 32768 (on "" 65536) (on "aag 1 0 1 0 0\n" 65536) (refuses 7 0) (refuses 7 0)
    -- the library's refusal is each channel's
    ∷ case (with "\n") 32768 (on graph_b 65536) (on "" 65536) (refuses 4 (length library)) (refuses 4 (length library))
    -- 1 over the library and a channel's own texts: the second's comes after every refusal tried up to 10 of the first
    ∷ case library 32768 (on graph_b 65536) (on_bytes (replicate 65537 10)) (refuses 1 0) (refuses 1 0)
    ∷ case library 32768 (on_bytes (replicate 65537 10)) (on "" 65536) (refuses 1 0) (refuses 1 0)
    ∷ case library 32768 (on "" 65536) (on_bytes (replicate 65537 10)) (refuses 7 0) (refuses 7 0)
    ∷ case (with "\n") 32768 (on graph_b 65536) (on_bytes (replicate 65537 10)) (refuses 4 (length library)) (refuses 4 (length library))
    ∷ case (with "\n") 32768 (on_bytes (replicate 65537 10)) (on graph_b 65536) (refuses 1 0) (refuses 1 0)
    ∷ case library 32768 (timed_on graph_b (replicate 65537 10)) (on "" 65536) (refuses 1 0) (refuses 1 0)
    ∷ case library 32768 (on graph_b 65536) (timed_on graph_b (replicate 65537 10)) (refuses 1 0) (refuses 1 0)
    -- "Any other refusal in one leaves the other mapped as if alone": 11, 17, 18, 25, 15 in one, two of them, the same in both
    ∷ case library 994 (on "aag 3 2 0 1 1\n2\n4\n6\n" 65536) (on graph_b 65536) (refuses 11 20) (gives 2 30)
    ∷ case library 993 (on "aag 3 2 0 1 1\n2\n4\n6\n" 65536) (on graph_b 65536) (refuses 10 0) (refuses 10 0)
    ∷ case library 622 (on "aag 0 0 0 1 0\n1\n" 65536) (on graph_b 65536) (refuses 17 0) (gives 2 30)
    ∷ case library 994 (on graph_b 134) (on graph_b 133) (gives 2 30) (refuses 18 134)
    ∷ case library 994 (on graph_b 0) (on graph_b 134) (refuses 18 134) (gives 2 30)
    ∷ case library 994 (timed_on graph_b (text "\n")) (on graph_b 65536) (refuses 25 0) (gives 2 30)
    ∷ case library 994 (on graph_b 65536) (timed_on graph_b (arrives "2 5\n")) (gives 2 30) (refuses 26 14)
    ∷ case library 32768 (on "aag 2 0 0 0 2\n2 4 4\n4 2 2\n" 65536) (on "aag 0 0 0 1 0\n1\n" 65536) (refuses 15 1) (refuses 17 0)
    ∷ case library 32768 (on "aag 0 0 0 1 0\n1\n" 65536) (on "aag 0 0 0 1 0\n1\n" 65536) (refuses 17 0) (refuses 17 0)
    -- a channel's arrivals are its own; each text has its own form
    ∷ case library 994 (timed_on graph_b (arrives "0 100\n")) (on graph_b 65536) (gives 2 130) (gives 2 30)
    ∷ case library 994 (on graph_b 65536) (timed_on graph_b (arrives "0 100\n")) (gives 2 30) (gives 2 130)
    ∷ case library 994 (on graph_b 65536) (on_bytes (head_b ++ (2 ∷ 2 ∷ []))) (gives 2 30) (gives 2 30)
    ∷ []
    ))
unfolding all two_holds library with graph_b graph_c head_b arrives text on timed_on on_bytes case
two_cases_hold = tt

-- B in both channels, with so many bytes lent to each
abbrev pub pair : ℕ → ℕ → TwoCall
pair a b = record { paired = false; library = library; words = 994; first = on graph_b a; second = on graph_b b }

-- what is printed for the second channel, and what is returned for each: B, and B with one byte too few
pub two-returns : T (
    is_print listing 2 3 30 (map_two (pair 65536 65536)).second
    && (is_returned 0 134 2 3 30 (returned (answers_of (map_two (pair 134 133))).first)
    && (is_returned 18 134 0 0 0 (returned (answers_of (map_two (pair 134 133))).second)
    && is_returned 0 134 2 3 30 (returned (answers_of (map_two (pair 133 134))).second)))
    )
unfolding is_print is_returned returned answers_of map_two library listing graph_b on
two-returns = tt

-- "neither is mapped and work memory is unchanged"; else it is zero
pub two_work_left : T (
    same (two_work_after (fault 7 0) (7 ∷ 8 ∷ [])) (7 ∷ 8 ∷ [])
    && (same (two_work_after (fault 10 0) (7 ∷ 8 ∷ [])) (7 ∷ 8 ∷ [])
    && same (two_work_after (reads (record { first = 1; second = 1 })) (7 ∷ 8 ∷ [])) (0 ∷ 0 ∷ []))
    )
unfolding same two_work_after
two_work_left = tt
