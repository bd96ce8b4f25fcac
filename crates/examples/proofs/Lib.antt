-- What the proofs of several groups of lines use.
mod Group
