-- What a Pull is answered, as the frames of a page.
use Rattle.std.specs.Prelude.{◌≡◌, ◌≤◌, ℕ, List, [], length, Option, None, Some}
use Rattle.dp_messages.specs.declared.message.Entry.{Entry}
use Rattle.dp_epochs.specs.declared.event.Answer.{Answer}
use Rattle.dp_epochs.specs.declared.event.Answer.TheVariants.{Entries, Gone}
use Rattle.dp_epochs.specs.Pull.{page as page_of}
use Rattle.dp_frame_log.specs.Frames.{IsShort, frames_of}
use Rattle.dp_history.specs.declared.page.Page.{Page}

-- an answer to a Pull, if these are the frames of its entries
abbrev pub AnswersBy : Answer → Option Page → List ℕ → Type 0
AnswersBy Gone None bytes = bytes ≡ []
AnswersBy Gone (Some page) bytes = ⊥
AnswersBy (Entries epoch at list) None bytes = ⊥
AnswersBy (Entries epoch at list) (Some page) bytes =
    (page.epoch ≡ epoch) × (page.at ≡ at) × (page.count ≡ length list)
    × (bytes ≡ frames_of list)

-- what a Pull of some number of entries is answered, as frames
abbrev pub IsPage : (ℕ → Answer) → Option Page → List ℕ → Type 0
IsPage answer page bytes = (most : ℕ) × AnswersBy (answer most) page bytes

-- `count` entries of a history from a place on, with their frames: as many as for some `most`
abbrev pub IsPageOf : List Entry → ℕ → ℕ → List ℕ → Type 0
IsPageOf history at count bytes =
    (most : ℕ) × (count ≡ length (page_of at most history))
    × (bytes ≡ frames_of (page_of at most history))

-- the most entries of a page
abbrev pub page_most : ℕ
page_most = 16384

-- nothing, or a page of few entries that has one frame or few bytes
abbrev pub IsBounded : Option Page → List ℕ → Type 0
IsBounded None bytes = bytes ≡ []
IsBounded (Some page) bytes = (page.count ≤ page_most) × IsShort page.count bytes
