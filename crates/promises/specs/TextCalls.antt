-- A call that writes a text into the bytes that it is lent, and the call that writes our cell text for a genlib text.
use Rattle.std.specs.Prelude.{◌≡◌, ◌++◌, Ok}
use Rattle.base.specs.{ℕ, List, length, drop}
use Rattle.model.specs.{Read, Written, holds, fault, refused_with, genlib_text, written_pair, GenlibDemand}
use Rattle.promises.specs.GateRefusals.{GenlibRefusals}

-- the answer, and what is left of the lent bytes; o is the text to write, or the first refusal that applies
pub record TextWritten (o : Read (List ℕ)) (text : List ℕ) (answer : Written) (text_left : List ℕ) : Type 0 where
  -- "Success, here and for later written texts, returns 0 and the length"
  pub success : (t : List ℕ) → o ≡ holds t → answer ≡ Ok (length t)
  -- the text comes first, and success "keeps the bytes after the text"
  pub written : (t : List ℕ) → o ≡ holds t → text_left ≡ t ++ drop (length t) text
  -- the number and the place are those of the refusal
  pub refusal : (n k : ℕ) → o ≡ fault n k → answer ≡ refused_with n k
  -- "a refusal leaves it unchanged"
  pub unchanged : (n k : ℕ) → o ≡ fault n k → text_left ≡ text
  -- what the document says that such a call returns
  pub returns_length : (t : List ℕ) → o ≡ holds t → written_pair answer ≡ (0, length t)
  pub returns_refusal : (n k : ℕ) → o ≡ fault n k → written_pair answer ≡ (n, k)

-- a genlib text converted: the whole of what `genlib_call::convert` says
pub record Conversion (genlib text : List ℕ) (answer : Written) (text_left : List ℕ) : Type 0 where
  pub memory : TextWritten (genlib_text genlib (length text)) text answer text_left
  -- "Read GATE and PIN lines and write our cell text"
  pub cells : GenlibDemand genlib (length text)
  -- 1, 22 to 24 and 18, each by its condition over the bytes
  pub refusals : GenlibRefusals genlib (length text)
