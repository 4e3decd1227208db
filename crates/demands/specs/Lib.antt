pub mod CallCourse
