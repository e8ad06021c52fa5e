-- Genlib texts and what is written for them, checked against the definitions by computing: gates as foundries write them, and the edges of each refusal.
use Prim.Native.String.{String}
use Rattle.base.specs.{ℕ, Bool, true, false, ◌&&◌, List, [], ◌∷◌, ◌++◌, map, T, eqb, replicate}
use Rattle.model.specs.{all, same, each, text, Read, holds, fault, read_library, name_of, read_genlib, cells_text, genlib_text, written_answer}
use Rattle.model.specs.{written_pair, written_after}
use Rattle.model.specs.declared.Cell.{Cell}
use Rattle.model.specs.Genlib.{Gate}

-- what is said of a genlib text with 65,536 bytes lent
pub data Case : Type 0 where
  -- these cell lines are written below the names line
  writes : List ℕ → String → Case
  -- the same with so many bytes lent
  suffices : List ℕ → ℕ → String → Case
  -- this refusal at this place
  refuses : List ℕ → ℕ → ℕ → Case
  -- this refusal with so many bytes lent
  lacks : List ℕ → ℕ → ℕ → ℕ → Case

unfoldable pub names_line : List ℕ
unfolding text
names_line = text "cell pins table area d0 d1 d2 d3\n"

unfoldable pub is_text : List ℕ → Read (List ℕ) → Bool
unfolding same
is_text t (holds u) = same t u
is_text t (fault n k) = false

unfoldable pub is_fault : ℕ → ℕ → Read (List ℕ) → Bool
is_fault n k (holds u) = false
is_fault n k (fault m j) = eqb n m && eqb k j

unfoldable pub shows : Case → Bool
unfolding is_text is_fault names_line genlib_text text
shows (writes g t) = is_text (names_line ++ text t) (genlib_text g 65536)
shows (suffices g bytes t) = is_text (names_line ++ text t) (genlib_text g bytes)
shows (refuses g n k) = is_fault n k (genlib_text g 65536)
shows (lacks g bytes n k) = is_fault n k (genlib_text g bytes)

-- a gate with this expression, over one PIN line for all pins
unfoldable pub gate : String → List ℕ
unfolding text
gate e = text "GATE g 1 O=" ++ (text e ++ text ";\nPIN * UNKNOWN 1 999 1 0 2.5 0\n")

-- a gate without pins with this area
unfoldable pub tie : String → List ℕ
unfolding text
tie a = text "GATE t " ++ (text a ++ text " O=CONST1;\n")

-- so many brackets around a pin
unfoldable pub nest : ℕ → List ℕ
unfolding text
nest n = text "GATE g 1 O=" ++ (replicate n 40 ++ (text "a" ++ (replicate n 41 ++ text ";\nPIN a x 1 1 1 1 1 1\n")))

-- what foundries write
pub usual_hold : T (all shows (
    -- an empty genlib text writes the names line alone
    writes [] ""
    ∷ writes (text "GATE inv 1 O=!A;\nPIN A UNKNOWN 1 999 0.012 0 0.011 0\n") "inv 1 0001 1000 12 0 0 0\n"
    ∷ writes (text "GATE nand2 2 O=!(A*B);\nPIN A INV 1 999 20 0 20 0\nPIN B INV 1 999 18 0 19.5 0\n") "nand2 2 0007 2000 20000 19500 0 0\n"
    ∷ writes (text "GATE aoi22 4.64 Y = !((a * b) + (c * d));\nPIN * INV 1 999 1.4 0.6 1.2 0.6\n") "aoi22 4 0777 4640 1400 1400 1400 1400\n"
    -- a multiplexer: the pins in order of first appearance, whatever the order of their PIN lines
    ∷ writes (text "GATE mux21 3.2 O=a*s+b*s';\nPIN s UNKNOWN 2 999 2.2 0 1 1\nPIN b x 1 1 1 1 1 1\nPIN a x 1 1 3 1 4 1\n") "mux21 3 00b8 3200 4000 2200 1000 0\n"
    ∷ writes (text "GATE xor 5 O=a*!b+!a*b;\nPIN * UNKNOWN 2 999 1.9 0.5 1.9 0.5\n") "xor 2 0006 5000 1900 1900 0 0\n"
    ∷ writes (text "GATE zero 0 O=CONST0;\nGATE one 0.5 O=CONST1;\n") "zero 0 0000 0 0 0 0 0\none 0 0001 500 0 0 0 0\n"
    -- a pin that the table ignores; a constant beside pins
    ∷ writes (gate "a+!a") "g 1 0003 1000 2500 0 0 0\n"
    ∷ writes (gate "a*CONST1+b*CONST0") "g 2 000a 1000 2500 2500 0 0\n"
    ∷ writes (gate "a+CONST0'") "g 1 0003 1000 2500 0 0 0\n"
    -- CONST0 and CONST1 alone are constants: any other name is a pin, `0` and `1` too
    ∷ writes (gate "0*1") "g 2 0008 1000 2500 2500 0 0\n"
    ∷ writes (gate "const0+CONST0") "g 1 0002 1000 2500 0 0 0\n"
    -- a pin that stands there again is the same pin; the output may have a pin's name
    ∷ writes (gate "a*b+a*!b+a") "g 2 000a 1000 2500 2500 0 0\n"
    ∷ writes (text "GATE g 1 a=a*b;\nPIN * x 1 1 1 1 1 1\n") "g 2 0008 1000 1000 1000 0 0\n"
    -- any number of `!` and `'`, and of blanks beside signs
    ∷ writes (gate "!!!a''") "g 1 0001 1000 2500 0 0 0\n"
    ∷ writes (gate "! ! ( a ) ' '") "g 1 0002 1000 2500 0 0 0\n"
    ∷ writes (gate "!(a+b)'*c") "g 3 00e0 1000 2500 2500 2500 0\n"
    -- `!` and `'` turn one factor, not the product that it stands in
    ∷ writes (gate "a*b'") "g 2 0002 1000 2500 2500 0 0\n"
    ∷ writes (gate "!a*b") "g 2 0004 1000 2500 2500 0 0\n"
    -- brackets in brackets, with a constant: all rows but the one where a and c are 1 and b is 0
    ∷ writes (gate "((a'+b)'*(CONST1*c))'") "g 3 00df 1000 2500 2500 2500 0\n"
    -- `*` binds before `+`, and brackets before both
    ∷ writes (gate "a+b*c") "g 3 00ea 1000 2500 2500 2500 0\n"
    ∷ writes (gate "(a+b)*c") "g 3 00e0 1000 2500 2500 2500 0\n"
    -- blanks at a line's ends, tabs, and either line end
    ∷ writes (text " \tGATE\tg 1 O\t=\ta ;\t\n  PIN * x 1 1 1 1 1 1 \n") "g 1 0002 1000 1000 0 0 0\n"
    ∷ writes (text "GATE g 1 O=a;\r\nPIN * x 1 1 1 1 1 1\nGATE h 1 O=a;\nPIN * x 1 1 1 1 1 1\r\n") "g 1 0002 1000 1000 0 0 0\nh 1 0002 1000 1000 0 0 0\n"
    -- the star of `PIN *` is a sign: blanks beside it are free
    ∷ writes (text "GATE g 1 O=a;\nPIN*INV 1 1 1 1 1 1\n") "g 1 0002 1000 1000 0 0 0\n"
    -- the first PIN line that fits counts, and one that counts for no pin is unused
    ∷ writes (text "GATE g 1 O=a;\nPIN * x 1 1 1 1 1 1\nPIN a x 1 1 2 1 2 1\n") "g 1 0002 1000 1000 0 0 0\n"
    ∷ writes (text "GATE g 1 O=a;\nPIN b x 1 1 70 1 0.0001 1\nPIN a x 1.00000 99999 2 1 2 1\n") "g 1 0002 1000 2000 0 0 0\n"
    ∷ writes (text "GATE g 1 O=a*b;\nPIN a x 1 1 2 1 2 1\nPIN * x 1 1 3 1 3 1\n") "g 2 0008 1000 2000 3000 0 0\n"
    ∷ writes (text "GATE g 1 O=a;\nPIN a x 1 1 2 1 2 1\nPIN a x 1 1 3 1 3 1\n") "g 1 0002 1000 2000 0 0 0\n"
    -- loads and fanout delays are not used, nor is any PIN line of a gate without pins
    ∷ writes (text "GATE g 1 O=a;\nPIN a x 1 1 2 9.99999 2 99999\n") "g 1 0002 1000 2000 0 0 0\n"
    ∷ writes (text "GATE t 1 O=CONST1;\nPIN * x 1 1 70 1 0.0001 1\n") "t 0 0001 1000 0 0 0 0\n"
    -- a name may be any word of letters, digits and underscores, a reserved one too; 3 to 6 are tried when the written text is read
    ∷ writes (text "GATE 1_long_gate_name 1 PIN=GATE*2;\nPIN 2 x 1 1 1 1 1 1\nPIN GATE x 1 1 3 1 1 1\nGATE 1_long_gate_name 1 O=CONST1;\n")
    "1_long_gate_name 2 0008 1000 3000 1000 0 0\n1_long_gate_name 0 0001 1000 0 0 0 0\n"
    -- figures: genlib's 12 is written 12000, leading zeros count for nothing
    ∷ writes (tie "12") "t 0 0001 12000 0 0 0 0\n"
    ∷ writes (tie "000000000000000000000000000001.5") "t 0 0001 1500 0 0 0 0\n"
    ∷ writes (tie "65.535") "t 0 0001 65535 0 0 0 0\n"
    ∷ writes (tie "00065.5") "t 0 0001 65500 0 0 0 0\n"
    ∷ writes (tie "0.07") "t 0 0001 70 0 0 0 0\n"
    ∷ []
    ))
unfolding all shows text gate tie
usual_hold = tt

-- the edges of each refusal
unfoldable pub refusals : List Case
unfolding text gate tie nest names_line each
refusals =
    -- 1, of the genlib text, before all others
    refuses (replicate 65537 32) 1 0
    ∷ refuses (replicate 65536 32) 22 0
    -- 22: the form of a GATE line
    ∷ map (λ (s : String). refuses (text s) 22 0) ("\n" ∷ "GATE" ∷ "GATE g 1 O=CONST1;" ∷ "GATE g O=CONST1;\n" ∷ "GATE g 1 =CONST1;\n" ∷
    "GATE g 1 O CONST1;\n" ∷ "GATE g 1 O=CONST1\n" ∷ "GATE g 1 O=CONST1;;\n" ∷ "GATE g 1 O=CONST1; # note\n" ∷
    "GATE g 1 O=a; PIN * x 1 1 1 1 1 1\n" ∷ "GATE g-1 1 O=CONST1;\n" ∷ "gate g 1 O=CONST1;\n" ∷ "GATE g 1 O=CONST1;\r\r\n" ∷
    "GATE g 1\r O=CONST1;\n" ∷ [])
    -- its expression
    ++ (refuses (gate "") 22 0
    ∷ map (λ (s : String). refuses (gate s) 22 0) ("a * * b" ∷ "a b" ∷ "a !b" ∷ "'a" ∷ "a!" ∷ "a+" ∷ "+a" ∷ "()" ∷ "(a" ∷ "a)" ∷ ")a(" ∷
    "(a)(b)" ∷ "a;b" ∷ "a.b" ∷ "a=b" ∷ [])
    -- figures
    ++ (refuses (tie "1.") 22 0
    ∷ map (λ (s : String). refuses (tie s) 22 0) (".5" ∷ "1.2.3" ∷ "-1" ∷ "1e3" ∷ [])
    -- PIN lines
    ++ (refuses (text "PIN a x 1 1 1 1 1 1\nGATE g 1 O=a;\n") 22 0
    ∷ map (λ (s : String). refuses (text s) 22 0) ("GATE g 1 O=a;\n" ∷ "GATE g 1 O=a;\nPIN b x 1 1 1 1 1 1\n" ∷
    "GATE g 1 O=a;\nPIN a x 1 1 1 1 1\n" ∷ "GATE g 1 O=a;\nPIN a x 1 1 1 1 1 1 1\n" ∷ "GATE g 1 O=a;\nPIN a 1.0 1 1 1 1 1 1\n" ∷
    "GATE g 1 O=a;\nPIN a x 1 1 1 1 1 1" ∷ "GATE g 1 O=a;\nPIN a x 1 1 1 1 1 1\n\n" ∷ [])
    -- a pin of a gate before does not count; a line of another kind belongs to the gate above it, a broken GATE line to none
    ++ (refuses (text "GATE g 1 O=a;\nPIN * x 1 1 1 1 1 1\nGATE h 1 O=a;\n") 22 34
    ∷ refuses (text "GATE g 1 O=CONST1;\nLATCH\nGATE h\n") 22 0
    ∷ refuses (text "GATE g 1 O=CONST1;\nGATE\n") 22 19
    -- a line's first word is its first letters, digits and underscores: `GATE.5` begins a group and `GATES` does not; a place counts the line's blanks
    ∷ refuses (text "GATE g 1 O=CONST1;\nGATE.5\n") 22 19
    ∷ refuses (text "GATE g 1 O=CONST1;\nGATES h 1 O=CONST1;\n") 22 0
    ∷ refuses (text "GATE g 1 O=CONST1;\n \tGATE\n") 22 19
    -- a last line without its end, in the group that it begins
    ∷ refuses (text "GATE g 1 O=CONST1;\nGATE h 1 O=CONST1;") 22 19
    -- 23, which 22 comes before
    ∷ refuses (gate "a+b+c+d+e") 23 0
    ∷ writes (gate "a*b*c*d*a") "g 4 8000 1000 2500 2500 2500 2500\n"
    ∷ refuses (text "GATE g 70 O=a+b+c+d+e;\nPIN * x 1 1 1 1 1 1\n") 23 0
    ∷ refuses (text "GATE g 1 O=a+b+c+d+e;\nPIN a x 1 1 1 1 1 1\n") 22 0
    ∷ writes (nest 16) "g 1 0002 1000 1000 0 0 0\n"
    ∷ refuses (nest 17) 23 0
    ∷ refuses (nest 17 ++ text "\n") 22 0
    ∷ refuses (gate "a+b+c+d+e" ++ text "GATE\n") 23 0
    -- brackets beside each other are not deep
    ∷ writes (text "GATE g 1 O=" ++ (each (λ (b : ℕ). text "(a)+") (replicate 17 0) ++ text "a;\nPIN a x 1 1 1 1 1 1\n")) "g 1 0002 1000 1000 0 0 0\n"
    ∷ refuses (text "GATE g 1 O=" ++ (replicate 17 40 ++ (text "a" ++ (replicate 16 41 ++ text ";\nPIN a x 1 1 1 1 1 1\n")))) 22 0
    -- 24, gate by gate
    ∷ map (λ (s : String). refuses (tie s) 24 0) ("65.536" ∷ "1.0000" ∷ "65.5350" ∷ "0.0000" ∷ "99999999999999999999999" ∷ [])
    ++ (refuses (text "GATE g 1 O=a;\nPIN a x 1 1 1 1 65.536 1\n") 24 0
    ∷ refuses (text "GATE g 1 O=a;\nPIN a x 1 1 0.0001 1 1 1\n") 24 0
    ∷ refuses (tie "1" ++ (tie "66" ++ text "\n")) 22 19
    ∷ refuses (tie "66" ++ text "GATE\n") 24 0
    -- 18, last, and the bytes that suffice
    ∷ lacks (tie "1") 54 18 55
    ∷ suffices (tie "1") 55 "t 0 0001 1000 0 0 0 0\n"
    ∷ lacks (tie "66") 0 24 0
    ∷ lacks [] 32 18 33
    ∷ [])))))

pub refusals_hold : T (all shows refusals)
unfolding all shows refusals
refusals_hold = tt

-- The edges between what is read and a reading close to it, a list for each: a wrong reading is refused by its own.

pub four-pins_hold : T (all shows (
    -- four pins that no exchange leaves alike, in order of first appearance, each with its own delay
    writes (text "GATE g 1 O=a*(b+!c*d);\nPIN a x 1 1 1 1 1 1\nPIN b x 1 1 2 1 2 1\nPIN c x 1 1 3 1 3 1\nPIN d x 1 1 4 1 4 1\n") "g 4 8a88 1000 1000 2000 3000 4000\n"
    ∷ writes (text "GATE g 1 O=d*(c+!b*a);\nPIN a x 1 1 1 1 1 1\nPIN b x 1 1 2 1 2 1\nPIN c x 1 1 3 1 3 1\nPIN d x 1 1 4 1 4 1\n") "g 4 8a88 1000 4000 3000 2000 1000\n"
    ∷ writes (text "GATE g 1 O=q*!p+s*r*!q;\nPIN p x 1 1 1 1 2 1\nPIN q x 1 1 1 1 1 1\nPIN r x 1 1 4 1 3 1\nPIN s x 1 1 0 1 3 1\n") "g 4 7222 1000 1000 2000 3000 4000\n"
    ∷ []
    ))
unfolding all shows text gate tie
four-pins_hold = tt

pub pin-lines_hold : T (all shows (
    -- every pin needs a PIN line, one above the fourth too: 22 comes before 23
    refuses (text "GATE g 1 O=a+b+c+d+e;\nPIN a x 1 1 1 1 1 1\nPIN b x 1 1 1 1 1 1\nPIN c x 1 1 1 1 1 1\nPIN d x 1 1 1 1 1 1\n") 22 0
    ∷ refuses (text "GATE g 1 O=a+b+c+d+e+f;\nPIN a x 1 1 1 1 1 1\nPIN b x 1 1 1 1 1 1\nPIN c x 1 1 1 1 1 1\nPIN d x 1 1 1 1 1 1\nPIN e x 1 1 1 1 1 1\n") 22 0
    ∷ refuses (text "GATE g 1 O=a+b+c+d;\nPIN a x 1 1 1 1 1 1\nPIN b x 1 1 1 1 1 1\nPIN c x 1 1 1 1 1 1\n") 22 0
    ∷ refuses (text "GATE g 1 O=a+b+c+d+e;\nPIN a x 1 1 1 1 1 1\nPIN b x 1 1 1 1 1 1\nPIN c x 1 1 1 1 1 1\nPIN d x 1 1 1 1 1 1\nPIN e x 1 1 1 1 1 1\n") 23 0
    ∷ []
    ))
unfolding all shows text gate tie
pin-lines_hold = tt

pub whole-names_hold : T (all shows (
    -- a PIN line fits the pin of its whole name alone: no beginning, no end, no other case of letters
    map (λ (s : String). refuses (text s) 22 0) ("GATE g 1 O=a;\nPIN ab x 1 1 1 1 1 1\n" ∷ "GATE g 1 O=ab;\nPIN a x 1 1 1 1 1 1\n" ∷
    "GATE g 1 O=b;\nPIN ab x 1 1 1 1 1 1\n" ∷ "GATE g 1 O=ab;\nPIN b x 1 1 1 1 1 1\n" ∷ "GATE g 1 O=a;\nPIN A x 1 1 1 1 1 1\n" ∷ [])
    ++ (writes (text "GATE g 1 O=a*ab;\nPIN ab x 1 1 2 1 2 1\nPIN a x 1 1 1 1 1 1\n") "g 2 0008 1000 1000 2000 0 0\n"
    ∷ writes (text "GATE g 1 O=ab*a;\nPIN a x 1 1 1 1 1 1\nPIN ab x 1 1 2 1 2 1\n") "g 2 0008 1000 2000 1000 0 0\n"
    ∷ [])
    ))
unfolding all shows text gate tie
whole-names_hold = tt

unfoldable pub blanks : List Case
unfolding text gate tie
blanks =
    -- bytes 32 and 9 alone are blanks: 0, 11, 12, 13, 31, 33, 127, 160 and 255 are none, between words, at a line's ends or beside signs
    writes (text "GATE" ++ (9 ∷ text "g 1 O=CONST1;\n")) "g 0 0001 1000 0 0 0 0\n"
    ∷ refuses (text "GATE" ++ (0 ∷ text "g 1 O=CONST1;\n")) 22 0
    ∷ refuses (text "GATE" ++ (11 ∷ text "g 1 O=CONST1;\n")) 22 0
    ∷ refuses (text "GATE" ++ (12 ∷ text "g 1 O=CONST1;\n")) 22 0
    ∷ refuses (text "GATE" ++ (13 ∷ text "g 1 O=CONST1;\n")) 22 0
    ∷ refuses (text "GATE" ++ (31 ∷ text "g 1 O=CONST1;\n")) 22 0
    ∷ refuses (text "GATE" ++ (33 ∷ text "g 1 O=CONST1;\n")) 22 0
    ∷ refuses (text "GATE" ++ (127 ∷ text "g 1 O=CONST1;\n")) 22 0
    ∷ refuses (text "GATE" ++ (160 ∷ text "g 1 O=CONST1;\n")) 22 0
    ∷ refuses (text "GATE" ++ (255 ∷ text "g 1 O=CONST1;\n")) 22 0
    ∷ refuses (12 ∷ text "GATE g 1 O=CONST1;\n") 22 0
    ∷ refuses (text "GATE g 1 O=CONST1;" ++ (12 ∷ text "\n")) 22 0
    ∷ refuses (text "GATE g 1 O" ++ (12 ∷ text "=CONST1;\n")) 22 0
    ∷ refuses (text "GATE g 1 O=a;\nPIN * x 1 1" ++ (12 ∷ text " 1 1 1 1\n")) 22 0
    ∷ refuses (text "GATE g 1 O=a;\nPIN * x 1 1" ++ (12 ∷ text "1 1 1 1\n")) 22 0
    ∷ refuses (text "GATE g 1 O=CONST1;\n" ++ (12 ∷ text "GATE h 1 O=CONST1;\n")) 22 0
    ∷ []

pub blanks_hold : T (all shows blanks)
unfolding all shows blanks
blanks_hold = tt

pub gate-names_hold : T (all shows (
    -- names are of letters, digits and underscores: no figure with a point is one, as a gate
    map (λ (s : String). refuses (text s) 22 0) ("GATE 1.5 1 O=CONST1;\n" ∷ "GATE g.h 1 O=CONST1;\n" ∷ "GATE * 1 O=CONST1;\n" ∷ [])
    ))
unfolding all shows text
gate-names_hold = tt

pub output-names_hold : T (all shows (
    -- as an output
    map (λ (s : String). refuses (text s) 22 0) ("GATE g 1 1.5=CONST1;\n" ∷ "GATE g 1 O.p=CONST1;\n" ∷ "GATE g 1 *=CONST1;\n" ∷ [])
    ))
unfolding all shows text
output-names_hold = tt

pub pin-names_hold : T (all shows (
    -- as a pin
    refuses (gate "1.5") 22 0
    ∷ refuses (text "GATE g 1 O=a;\nPIN * x 1 1 1 1 1 1\nPIN 1.5 x 1 1 1 1 1 1\n") 22 0
    ∷ writes (text "GATE 15 1 15=15;\nPIN 15 15 1 1 1 1 1 1\n") "15 1 0002 1000 1000 0 0 0\n"
    ∷ []
    ))
unfolding all shows text gate
pin-names_hold = tt

pub phases_hold : T (all shows (
    -- "the phase (any name)": no sign, and not `*`
    refuses (text "GATE g 1 O=a;\nPIN a * 1 1 1 1 1 1\n") 22 0
    ∷ refuses (text "GATE g 1 O=a;\nPIN * * 1 1 1 1 1 1\n") 22 0
    ∷ refuses (text "GATE g 1 O=a;\nPIN a + 1 1 1 1 1 1\n") 22 0
    ∷ []
    ))
unfolding all shows text gate tie
phases_hold = tt

unfoldable pub loads : List Case
unfolding text gate tie
loads =
    -- loads, block and fanout delays are figures, used or not
    map (λ (s : String). refuses (text s) 22 0) ("GATE g 1 O=a;\nPIN a x y 1 1 1 1 1\n" ∷ "GATE g 1 O=a;\nPIN a x * 1 1 1 1 1\n" ∷
    "GATE g 1 O=a;\nPIN a x 1 y 1 1 1 1\n" ∷ "GATE g 1 O=a;\nPIN a x 1 * 1 1 1 1\n" ∷ "GATE g 1 O=a;\nPIN a x 1 1 y 1 1 1\n" ∷
    "GATE g 1 O=a;\nPIN a x 1 1 1 y 1 1\n" ∷ "GATE g 1 O=a;\nPIN a x 1 1 1 1 y 1\n" ∷ "GATE g 1 O=a;\nPIN a x 1 1 1 1 1 y\n" ∷
    "GATE g 1 O=a;\nPIN * x 1 1 1 1 1 1\nPIN b x 1 1. 1 1 1 1\n" ∷ [])

pub loads_hold : T (all shows loads)
unfolding all shows loads
loads_hold = tt

unfoldable pub decimals : List Case
unfolding text gate tie
decimals =
    -- at most three decimals in a used figure: none of four, five, six, seven or ten
    writes (tie "1.000") "t 0 0001 1000 0 0 0 0\n"
    ∷ map (λ (s : String). refuses (tie s) 24 0) ("1.0000" ∷ "1.00000" ∷ "1.000000" ∷ "1.0000000" ∷ "1.0000000000" ∷ [])
    ++ (refuses (text "GATE g 1 O=a;\nPIN a x 1 1 1.000000 1 1 1\n") 24 0
    ∷ refuses (text "GATE g 1 O=a;\nPIN a x 1 1 1 1 1.000000 1\n") 24 0
    ∷ writes (text "GATE g 1 O=a;\nPIN a x 1.000000 1.000000 1 1.000000 1 1.000000\n") "g 1 0002 1000 1000 0 0 0\n"
    ∷ [])

pub decimals_hold : T (all shows decimals)
unfolding all shows decimals
decimals_hold = tt

pub gate_by_gate_hold : T (all shows (
    -- each digit of a figure counts where it stands
    writes (tie "12.345") "t 0 0001 12345 0 0 0 0\n"
    ∷ writes (tie "60.789") "t 0 0001 60789 0 0 0 0\n"
    ∷ writes (tie "1.2") "t 0 0001 1200 0 0 0 0\n"
    ∷ writes (tie "0.001") "t 0 0001 1 0 0 0 0\n"
    -- the delay is the larger of columns 5 and 7 of the line that counts, on either side
    ∷ writes (text "GATE g 1 O=a*b;\nPIN a x 9 8 1 7 2 6\nPIN b x 9 8 2 7 1 6\n") "g 2 0008 1000 2000 2000 0 0\n"
    -- the refusals gate by gate: an earlier gate's 24 and 23 before a later one's 22, and of one gate 22 before 23 before 24
    ∷ refuses (tie "66" ++ gate "a+b+c+d+e") 24 0
    ∷ refuses (tie "1" ++ (gate "a+b+c+d+e" ++ tie "66")) 23 19
    ∷ refuses (text "GATE g 66 O=a+b+c+d+e;\nPIN a x 1 1 70 1 1 1\n") 22 0
    ∷ refuses (text "GATE g 66 O=a+b+c+d+e;\nPIN * x 1 1 70 1 1 1\n") 23 0
    ∷ refuses (text "GATE g 66 O=a;\nPIN a x 1 1 1 1 1 1\nPIN a x 1 1 1 1 1\n") 22 0
    ∷ []
    ))
unfolding all shows text gate tie
gate_by_gate_hold = tt

-- any number of gates: 33 are written, which 3 refuses when the text is read
pub many_hold : T (is_text (names_line ++ each (λ (i : ℕ). text "t 0 0001 1000 0 0 0 0\n") (replicate 33 0)) (genlib_text (each (λ (i : ℕ). tie "1") (replicate 33 0)) 65536))
unfolding is_text names_line each text tie genlib_text
many_hold = tt

-- ---- what a call returns and leaves

unfoldable pub is_pair : ℕ → ℕ → ℕ × ℕ → Bool
is_pair n k p = eqb n p.0 && eqb k p.1

-- "Success .. returns 0 and the length, and keeps the bytes after the text"; "a refusal leaves it unchanged"
pub calls_hold : T (all (λ (b : Bool). b) (
    is_pair 0 33 (written_pair (written_answer (genlib_text [] 40)))
    ∷ same (names_line ++ replicate 7 9) (written_after (genlib_text [] 40) (replicate 40 9))
    ∷ is_pair 18 33 (written_pair (written_answer (genlib_text [] 32)))
    ∷ same (replicate 32 9) (written_after (genlib_text [] 32) (replicate 32 9))
    ∷ []))
unfolding all is_pair written_pair written_answer written_after genlib_text same names_line
calls_hold = tt

-- ---- the written text, read as a library

-- a cell is the one that was written for a gate
unfoldable pub is_cell : Gate → Cell → Bool
unfolding same name_of
is_cell g c = same g.name (name_of c) && (eqb g.pins c.pins && (eqb g.table c.table && (eqb g.area c.area && same g.delays c.delays)))

unfoldable pub are_cells : List Gate → List Cell → Bool
unfolding is_cell
are_cells [] [] = true
are_cells [] (c ∷ cs) = false
are_cells (g ∷ gs) [] = false
are_cells (g ∷ gs) (c ∷ cs) = is_cell g c && are_cells gs cs

unfoldable pub is_library : List Gate → Read (List Cell) → Bool
unfolding are_cells
is_library gs (holds cs) = are_cells gs cs
is_library gs (fault n k) = false

-- what is written for a genlib text is read as its gates
unfoldable pub comes_back : Read (List Gate) → Bool
unfolding is_library read_library cells_text
comes_back (holds gs) = is_library gs (read_library (cells_text gs))
comes_back (fault n k) = false

-- texts whose cells pass 3 to 6
unfoldable pub libraries : List (List ℕ)
unfolding text gate tie nest
libraries =
    []
    ∷ text "GATE inv 1 O=!A;\nPIN A UNKNOWN 1 999 0.012 0 0.011 0\nGATE nand2 2 O=!(A*B);\nPIN A INV 1 999 20 0 20 0\nPIN B INV 1 999 18 0 19.5 0\n"
    ∷ text "GATE aoi22 4.64 Y = !((a * b) + (c * d));\nPIN * INV 1 999 1.4 0.6 1.2 0.6\nGATE zero 0 O=CONST0;\nGATE one 0.5 O=CONST1;\n"
    ∷ gate "a*s+b*s'"
    ∷ tie "65.535"
    ∷ nest 16
    ∷ []

pub libraries_come_back : T (all (λ t. comes_back (read_genlib t)) libraries)
unfolding all comes_back read_genlib libraries
libraries_come_back = tt
