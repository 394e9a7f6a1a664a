pub mod Times
pub mod Paths
pub mod RingLaws
pub mod LinkLaws
pub mod OrderLaws
pub mod BucketLaws
pub mod Turning
pub mod FrontLaws
