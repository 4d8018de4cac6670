-- The states that there are (01, "Dispatch": "Every state comes from loading or from a call; that may be assumed of a state, and no more"; 02, b): and from
-- reading a list).
use Rattle.std.specs.Prelude.{List, ℕ}
use Rattle.fields.specs.Fields.{Bytes}
use Rattle.executive.specs.declared.state.State.{State}
use Rattle.image.specs.Loading.{load_of}
use Rattle.linux.specs.Lists.{read_of}
use Rattle.theorems.specs.Histories.{Call, called}

-- a state comes from loading an image or reading a list, refused or not, or from a call, with any argument, on such a state
pub data Comes : State → Type 0 where
  loaded : (image : List ℕ) → Bytes image → Comes (load_of image).state
  listed : (list : List ℕ) → Bytes list → Comes (read_of list).state
  from_call : {s : State} (c : Call) → Comes s → Comes (called s c).state
