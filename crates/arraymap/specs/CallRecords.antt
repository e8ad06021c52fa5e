-- What the exported calls answer, leave of the lent memory, and promise.
use Rattle.model.specs.{Checked, Verdict, Written}
use Rattle.std.specs.Prelude.{◌≡◌}
use Rattle.base.specs.{ℕ, Bool, List}
use Rattle.model.specs.{call_of, map_texts, returned_by, text_after, work_after, TwoCall, channel_of, two_call_of, needs_of, map_two, two_work_after}
use Rattle.promises.specs.Promised.{Promised}
use Rattle.promises.specs.{TwoPromised, Conversion, NetlistCount, TallyReport, NetlistCheck}
use Rattle.arraymap.specs.CallAnswers.{answered, TextValues, VerdictValues, CheckedValues}
use Rattle.arraymap.specs.declared.ArraymapAnswer.{ArraymapAnswer}
use Rattle.arraymap.specs.declared.ArraymapChecked.{ArraymapChecked}
use Rattle.arraymap.specs.declared.ArraymapTwo.{ArraymapTwo}

-- one graph
pub record Called (paired : Bool) (library graph arrivals work text : List ℕ) (answer : ArraymapAnswer) (work_left text_left : List ℕ) : Type 0 where
  pub answers : answer ≡ answered (returned_by (map_texts (call_of paired library graph arrivals work text)))
  pub words : work_left ≡ work_after (map_texts (call_of paired library graph arrivals work text)) work
  pub bytes : text_left ≡ text_after (map_texts (call_of paired library graph arrivals work text)) text
  pub promised : Promised (call_of paired library graph arrivals work text)

-- two channels: c is `two_call_of` of the texts and of the lent memory
pub record TwoAnswered (c : TwoCall) (work text1 text2 : List ℕ) (answer : ArraymapTwo) (work_left left1 left2 : List ℕ) : Type 0 where
  pub first : answer.first ≡ answered (returned_by (map_two c).first)
  pub second : answer.second ≡ answered (returned_by (map_two c).second)
  pub words : work_left ≡ two_work_after (needs_of c) work
  pub bytes1 : left1 ≡ text_after (map_two c).first text1
  pub bytes2 : left2 ≡ text_after (map_two c).second text2
  pub promised : TwoPromised c

abbrev pub CalledTwo : Bool → List ℕ → List ℕ → List ℕ → List ℕ → List ℕ → List ℕ → List ℕ → List ℕ → ArraymapTwo → List ℕ → List ℕ → List ℕ → Type 0
CalledTwo paired library graph1 arrivals1 graph2 arrivals2 work text1 text2 =
    TwoAnswered (two_call_of paired library (channel_of graph1 arrivals1 text1) (channel_of graph2 arrivals2 text2) work) work text1 text2

-- a genlib text
pub record CalledGenlib (genlib text : List ℕ) (answer : ArraymapAnswer) (text_left : List ℕ) : Type 0 where
  pub outcome : Written
  pub values : TextValues outcome answer
  pub conversion : Conversion genlib text outcome text_left

-- a netlist counted
pub record CalledCount (library netlist before : List ℕ) (answer : ArraymapAnswer) (after : List ℕ) : Type 0 where
  pub outcome : Verdict
  pub values : VerdictValues outcome answer
  pub count : NetlistCount library netlist before outcome after

-- a tally reported
pub record CalledReport (library tally text : List ℕ) (answer : ArraymapAnswer) (text_left : List ℕ) : Type 0 where
  pub outcome : Written
  pub values : TextValues outcome answer
  pub report : TallyReport library tally text outcome text_left

-- an edited netlist checked
pub record CalledCheck (library graph netlist work : List ℕ) (answer : ArraymapChecked) (work_left : List ℕ) : Type 0 where
  pub outcome : Checked
  pub values : CheckedValues outcome answer
  pub check : NetlistCheck library graph netlist work outcome work_left
