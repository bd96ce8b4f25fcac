-- The sections from each one on, down to the numbers of what is found.
use Rattle.std.specs.Prelude.{ℕ, cond, ◌&&◌, List, [], ◌∷◌, eqb, leb, length, drop, None}
use Rattle.field.specs.Number.{decode}
use Rattle.fnv.specs.Fnv.{fnv64}
use Rattle.rules.specs.declared.Area.{Area}
use Rattle.rules.specs.declared.Checkpoint.{Checkpoint}
use Rattle.rules.specs.declared.Confirmation.{Confirmation}
use Rattle.rules.specs.declared.Fingerprint.TheVariants.{Unknown, Held as Stated}
use Rattle.rules.specs.declared.Header.{Header}
use Rattle.rules.specs.declared.Held.{Held}
use Rattle.rules.specs.declared.HintHeader.{HintHeader}
use Rattle.rules.specs.Tests.{Answer, Refused, Accepted, after, ask, bind, first_no}
use Rattle.rules.specs.Values.{Frame, used, frontier_of}
use Rattle.rules.specs.File.{read_header, magic_bytes}
use Rattle.rules.specs.Load.{Read, has_fingerprint, ending_of, header_number, end_number, read_checkpoints, read_frames, read_parts, read_hint_section, read_confirmed_section}
use Rattle.tables.specs.Files.{frames_read}
use Rattle.inspect.specs.Steps.{read_lsns}
use Rattle.inspect.specs.declared.Found.{Found}
use Rattle.inspect.specs.declared.Inspected.{Inspected}
use Rattle.inspect.specs.declared.Inspected.TheVariants as inspected

-- the numbers of a file with the header h and the hint section's header g, u bytes of frames and c confirmations
unfoldable pub found_by : Area → Header → ℕ → HintHeader → ℕ → Found
found_by a h u g c =
    record {
      index =
          record {
            area = a;
            interval = h.interval;
            budget = h.budget;
            spacing = g.spacing;
            most = g.most;
            checkpoints = h.checkpoints;
            frames = h.frames;
            parts = h.parts;
            malformed = h.malformed;
            hints = g.count;
            confirmed = c;
            ending = (ending_of h);
            fingerprint = cond (has_fingerprint h) (Stated g.fingerprint) Unknown;
            image = None;
          };
      used = u;
      version = h.version;
    }

-- the bytes of a header's frames
abbrev pub used_by : Header → List ℕ → ℕ
used_by h frames = used (frames_read h.frames frames)

unfoldable pub answered : Answer Found → Inspected
answered (Refused n) = inspected.Refused n
answered (Accepted f) = inspected.Passed f

-- 38
unfoldable pub at_end : Area → Header → ℕ → HintHeader → Read (List Confirmation) → Answer Found
at_end a h u g qs = after (first_no (ask (eqb (length qs.rest) 0) 38 ∷ [])) (Accepted (found_by a h u g (length qs.value)))

unfoldable pub from_confirmed : Area → Header → ℕ → HintHeader → List ℕ → Answer Found
from_confirmed a h u g b = bind (read_confirmed_section a h g.most b) (at_end a h u g)

unfoldable pub from_hints : Area → Header → ℕ → List ℕ → Answer Found
from_hints a h u b = bind (read_hint_section a h b) (λ hs. from_confirmed a h u hs.value.header hs.rest)

-- below the frontier front
unfoldable pub from_malformed : Area → Header → ℕ → ℕ → List ℕ → Answer Found
from_malformed a h u front b = bind (read_lsns a h front b) (λ ms. from_hints a h u ms.rest)

unfoldable pub from_end : Area → Header → ℕ → List Checkpoint → List Held → List ℕ → Answer Found
from_end a h u cs ps b = after (end_number a h cs ps) (from_malformed a h u (frontier_of a h.interval (length cs) (ending_of h)) b)

unfoldable pub from_parts : Area → Header → List Checkpoint → List Frame → List ℕ → Answer Found
from_parts a h cs fs b = bind (read_parts a h cs fs b) (λ ps. from_end a h (used fs) cs ps.value ps.rest)

unfoldable pub from_frames : Area → Header → List Checkpoint → List ℕ → Answer Found
from_frames a h cs b = bind (read_frames a h b) (λ fs. from_parts a h cs fs.value fs.rest)

unfoldable pub from_checkpoints : Area → Header → List ℕ → Answer Found
from_checkpoints a h b = bind (read_checkpoints h b) (λ cs. from_frames a h cs.value cs.rest)

-- a body whose sum is to be sum
unfoldable pub from_body : Area → ℕ → List ℕ → Answer Found
from_body a sum b =
    after
    (first_no (ask (leb 80 (length b) && eqb (read_header b).magic (decode magic_bytes)) 21 ∷ ask (eqb (fnv64 b) sum) 22 ∷ []))
    (after (header_number a (read_header b) (length (drop 80 b))) (from_checkpoints a (read_header b) (drop 80 b)))
