-- The walk as the code goes. What it promises is `Walks` of paths/specs/Shown; no promise rests on what stands here.
-- Assumes nothing.
pub mod Course
pub mod Tested
