-- The law of both: bytes are read as what they say exactly if they are its frame.
use Rattle.std.specs.Prelude.{◌≡◌, ℕ, true, List, Ok}
use Rattle.message.specs.Frames.{Said, shape_of, frame_of, allowed, decode_answer}

-- these bytes are the frame of this, which a peer with so many blocks may say
pub record IsFrame (blocks : ℕ) (frame : List ℕ) (said : Said) : Type 0 where
  pub may : allowed (shape_of blocks said.letter) said ≡ true
  pub exact : frame ≡ frame_of said

pub record RoundTrip (blocks : ℕ) (frame : List ℕ) : Type 0 where
  pub sound : (said : Said) → decode_answer blocks frame ≡ Ok said → IsFrame blocks frame said
  pub complete : (said : Said) → IsFrame blocks frame said → decode_answer blocks frame ≡ Ok said
